-- What is put of the messages that a switch sent.
use Rattle.std.proofs.Common.{◌≡◌, ◌≤◌, List, [], ◌∷◌, ◌++◌, length, refl, sym, ap, subst, ◌∙◌, append_assoc, arith}
use Rattle.std.specs.Prelude.{Option, ℕ, Result, Ok, Err, OnOk, OnErr}
use Rattle.std.proofs.lemmas.Grind.{flat_map-append}
use Rattle.std.proofs.lemmas.List.{append-nil}
use Rattle.sc_value.specs.declared.message.Sent.{Sent}
use Rattle.sc_edge.specs.Taking.{Takes, TakesPart, Takes_none, Takes_then, TakesPart_then, TakesPart_front}
use Rattle.sc_model.specs.Records.{record_text, records, end_text}
use Rattle.sc_hosts.specs.Histories.{as_session}
use Rattle.sc_hosts.specs.Runs.{live_count}
use Rattle.sc_runs.specs.Outputs.{output, journal_records, end_line}
use Rattle.sc_switch.specs.Standing.{Known, net_of}
use Rattle.sc_follow.specs.Moving.{IsUntaken}

pub records-append : (first rest : List Sent) → records (first ++ rest) ≡ records first ++ records rest
unfolding records
records-append first rest = flat_map-append record_text first rest

records-one : (sent : Sent) → records (sent ∷ []) ≡ record_text sent
unfolding records
records-one sent = append-nil (record_text sent)

records-next : (sent : Sent) (rest : List Sent) → records (sent ∷ rest) ≡ record_text sent ++ records rest
records-next sent rest = records-append (sent ∷ []) rest ∙ ap (λ (bytes : List ℕ). bytes ++ records rest) (records-one sent)

-- nothing but what is left changed, in two steps
pub left_alone : (old mid new : Known) → mid ≡ record old { left = mid.left } → new ≡ record mid { left = new.left } → new ≡ record old { left = new.left }
left_alone old mid new before now = now ∙ ap (λ (known : Known). record known { left = new.left }) before

-- a fact holds of either answer
pub on_either : {A E P : Type 0} (r : Result A E) → P → OnErr r P
on_either (Ok a) p = tt
on_either (Err e) p = p

-- where the count of what is left is 0, nothing is left
pub none_left : (left : List Sent) (count : ℕ) → count ≡ length left → count ≤ 0 → left ≡ []
none_left [] count is none = refl
none_left (sent ∷ rest) count is none = absurd (omega (arith, is, none))

-- no message was taken
pub put_none : (a : Option (List ℕ)) → Takes a a (records [])
unfolding records
put_none a = Takes_none a

-- one more message was taken
pub one_more : (all first left rest : List Sent) (sent : Sent) → all ≡ first ++ left → left ≡ sent ∷ rest → all ≡ (first ++ sent ∷ []) ++ rest
one_more all first left rest sent all_is left_is =
    all_is ∙ ap (λ (l : List Sent). first ++ l) left_is ∙ sym (append_assoc first (sent ∷ []) rest)

-- its record was put
pub put_more : (a b c : Option (List ℕ)) (first : List Sent) (sent : Sent) → Takes a b (records first) → Takes b c (record_text sent) → Takes a c (records (first ++ sent ∷ []))
put_more a b c first sent before now =
    subst (λ (bytes : List ℕ). Takes a c bytes)
    (sym (records-append first (sent ∷ []) ∙ ap (λ (bytes : List ℕ). records first ++ bytes) (records-one sent)))
    (Takes_then a b c (records first) (record_text sent) before now)

-- all records were put
pub put_whole : (a b : Option (List ℕ)) (all first left : List Sent) → all ≡ first ++ left → left ≡ [] → Takes a b (records first) → Takes a b (records all)
put_whole a b all first left all_is left_is takes =
    subst (λ (l : List Sent). Takes a b (records l)) (sym (all_is ∙ ap (λ (l : List Sent). first ++ l) left_is ∙ append-nil first)) takes

-- the record of the message was put in part
pub put_part : (a b c : Option (List ℕ)) (all first left rest : List Sent) (sent : Sent) → all ≡ first ++ left → left ≡ sent ∷ rest → Takes a b (records first) → TakesPart b c (record_text sent) → TakesPart a c (records all)
put_part a b c all first left rest sent all_is left_is before now =
    subst (λ (bytes : List ℕ). TakesPart a c bytes)
    (sym (ap records all_is ∙ records-append first left ∙ ap (λ (l : List Sent). records first ++ records l) left_is
    ∙ ap (λ (bytes : List ℕ). records first ++ bytes) (records-next sent rest)))
    (TakesPart_then a b c (records first) (record_text sent ++ records rest) before (TakesPart_front b c (record_text sent) (records rest) now))

-- the records of all that was sent, and the last line, are the whole output
pub output_of : (known : Known) (steps sent live : ℕ) → known.epoch ≡ 0 → known.began ≡ 0 → IsUntaken known → steps ≡ length known.journal → sent ≡ length known.left → live ≡ live_count (net_of known)
    → records known.left ++ end_text steps sent live ≡ output as_session known.setup known.journal
unfolding output journal_records end_line net_of
output_of known steps sent live epoch began untaken steps_is sent_is live_is = rw (steps_is, sent_is, live_is, untaken.left_is, epoch, began, untaken.handed_is) refl

-- the records, and then the line
pub ended : (a b c : Option (List ℕ)) (known : Known) (steps sent live : ℕ) → known.epoch ≡ 0 → known.began ≡ 0 → IsUntaken known → steps ≡ length known.journal → sent ≡ length known.left → live ≡ live_count (net_of known)
    → Takes a b (records known.left) → Takes b c (end_text steps sent live) → Takes a c (output as_session known.setup known.journal)
ended a b c known steps sent live epoch began untaken steps_is sent_is live_is first second =
    subst (λ (bytes : List ℕ). Takes a c bytes) (output_of known steps sent live epoch began untaken steps_is sent_is live_is) (Takes_then a b c (records known.left) (end_text steps sent live) first second)

-- the records, and then a part of the line
pub ended_part : (a b c : Option (List ℕ)) (known : Known) (steps sent live : ℕ) → known.epoch ≡ 0 → known.began ≡ 0 → IsUntaken known → steps ≡ length known.journal → sent ≡ length known.left → live ≡ live_count (net_of known)
    → Takes a b (records known.left) → TakesPart b c (end_text steps sent live) → TakesPart a c (output as_session known.setup known.journal)
ended_part a b c known steps sent live epoch began untaken steps_is sent_is live_is first second =
    subst (λ (bytes : List ℕ). TakesPart a c bytes) (output_of known steps sent live epoch began untaken steps_is sent_is live_is) (TakesPart_then a b c (records known.left) (end_text steps sent live) first second)

-- a part of the records
pub cut_part : (a b : Option (List ℕ)) (known : Known) (steps sent live : ℕ) → known.epoch ≡ 0 → known.began ≡ 0 → IsUntaken known → steps ≡ length known.journal → sent ≡ length known.left → live ≡ live_count (net_of known)
    → TakesPart a b (records known.left) → TakesPart a b (output as_session known.setup known.journal)
cut_part a b known steps sent live epoch began untaken steps_is sent_is live_is part =
    subst (λ (bytes : List ℕ). TakesPart a b bytes) (output_of known steps sent live epoch began untaken steps_is sent_is live_is) (TakesPart_front a b (records known.left) (end_text steps sent live) part)

pub on_ok : {A E P Q : Type 0} (r : Result A E) → (P → Q) → OnOk r P → OnOk r Q
on_ok (Ok a) f p = f p
on_ok (Err e) f p = tt

pub on_err : {A E P Q : Type 0} (r : Result A E) → (P → Q) → OnErr r P → OnErr r Q
on_err (Ok a) f p = tt
on_err (Err e) f p = f p

-- ## Without the last line

-- all records of what the journal sends
pub cut_whole : (a b : Option (List ℕ)) (known : Known) → known.epoch ≡ 0 → known.began ≡ 0 → IsUntaken known → Takes a b (records known.left) → Takes a b (journal_records as_session known.setup known.journal)
unfolding journal_records
cut_whole a b known epoch began untaken takes = subst (λ (sent : List Sent). Takes a b (records sent)) (rw (epoch, began) at untaken.left_is) takes

-- a part of them
pub cut_front : (a b : Option (List ℕ)) (known : Known) → known.epoch ≡ 0 → known.began ≡ 0 → IsUntaken known → TakesPart a b (records known.left) → TakesPart a b (journal_records as_session known.setup known.journal)
unfolding journal_records
cut_front a b known epoch began untaken takes = subst (λ (sent : List Sent). TakesPart a b (records sent)) (rw (epoch, began) at untaken.left_is) takes

-- which is a part of the output
pub cut_output : (a b : Option (List ℕ)) (known : Known) → known.epoch ≡ 0 → known.began ≡ 0 → IsUntaken known → TakesPart a b (records known.left) → TakesPart a b (output as_session known.setup known.journal)
unfolding output
cut_output a b known epoch began untaken takes = TakesPart_front a b (journal_records as_session known.setup known.journal) (end_line as_session known.setup known.journal) (cut_front a b known epoch began untaken takes)
