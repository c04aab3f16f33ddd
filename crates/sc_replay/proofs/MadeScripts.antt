-- The script of calls is one that is read.
use Rattle.std.proofs.Common.{◌≡◌, ◌≤◌, ◌+◌, ◌*◌, ◌-◌, ℕ, zero, suc, Bool, false, cond, Ok, Err, List, ◌++◌, length, sym, ap, subst, ◌∙◌, append_assoc, arith}
use Rattle.std.specs.Prelude.{nat_lt}
use Rattle.std.specs.List.{flat_map, range_with_len}
use Rattle.std.proofs.lemmas.Bool.Decides.{nat_tests}
use Rattle.std.proofs.lemmas.List.Concat.{flat_map-cons}
use Rattle.sc_value.specs.declared.message.Request.{Request}
use Rattle.sc_value.specs.declared.message.Message.TheVariants as messages
use Rattle.sc_terms.specs.declared.steps.Line.{Line}
use Rattle.sc_tokens.specs.Bytes.{Bytes}
use Rattle.sc_grammar.specs.Written.{text_of_message as written}
use Rattle.sc_model.specs.Generated.{run_line, end_line, tick_line, arriving_text, arrives, invite_of, ack_of, bye_of, call_text, generated_text as generated}
use Rattle.sc_script.specs.ScriptTexts.{lines_in, script_of}
use Rattle.sc_replay.proofs.ScriptRows.{IsRead, end_read, run_read, tick_read, arriving_read}
use Rattle.sc_replay.proofs.MadeSizes.{IsShort, invite_short, ack_short, bye_short, script_short}

parted : (since : ℕ) (a b rest : Bytes) → IsRead since (a ++ (b ++ rest)) → IsRead since (a ++ b ++ rest)
parted since a b rest reads = subst (IsRead since) (sym (append_assoc a b rest)) reads

arrives_read : (since : ℕ) (request : Request) (rest : Bytes) → IsShort (written (messages.Request request)) → IsRead since rest → IsRead since (arrives request ++ rest)
unfolding arrives
arrives_read since request rest short reads =
    let text = written (messages.Request request) in
    parted since (arriving_text text) run_line rest (arriving_read since text (run_line ++ rest) short.some (omega (arith, short.few)) (run_read since rest reads))

timer_read : (since now : ℕ) (rest : Bytes) → 1 ≤ now → now ≤ 2000000 → since ≤ now → IsRead now rest → IsRead since (tick_line now ++ run_line ++ rest)
timer_read since now rest least most later reads = parted since (tick_line now) run_line rest (tick_read since now (run_line ++ rest) least (omega (arith, most)) later (run_read now rest reads))

-- a call, and what is read behind it
call_read : (since i : ℕ) (rest : Bytes) → 1 ≤ i → i ≤ 1000 → since ≤ 2000 * i - 2000 → IsRead (2000 * i) rest → IsRead since (call_text i ++ rest)
unfolding call_text
call_read since i rest least most later reads =
    let first = arrives (invite_of i) in
    let second = tick_line (2000 * i - 1000) ++ run_line in
    let third = arrives (ack_of i) in
    let fourth = arrives (bye_of i) in
    let last = tick_line (2000 * i) in
    let now = 2000 * i - 1000 in
    let end = tick_read now (2000 * i) rest (omega (arith, least)) (omega (arith, most)) (omega arith) reads in
    let bye = arrives_read now (bye_of i) (last ++ rest) (bye_short i most) end in
    let ack = arrives_read now (ack_of i) (fourth ++ (last ++ rest)) (ack_short i most) bye in
    let timer = timer_read since now (third ++ (fourth ++ (last ++ rest))) (omega (arith, least)) (omega (arith, most)) (omega (arith, later, least)) ack in
    let invite = arrives_read since (invite_of i) (second ++ (third ++ (fourth ++ (last ++ rest)))) (invite_short i most) timer in
    parted since (first ++ second ++ third ++ fourth) last rest
    (parted since (first ++ second ++ third) fourth (last ++ rest)
    (parted since (first ++ second) third (fourth ++ (last ++ rest))
    (parted since first second (third ++ (fourth ++ (last ++ rest))) invite)))

calls_read : (k a since : ℕ) → 1 ≤ a → a + k ≤ 1001 → since ≤ 2000 * a - 2000 → IsRead since (flat_map call_text (range_with_len a k) ++ end_line)
calls_read zero a since least most later = end_read since
calls_read (suc k) a since least most later =
    subst (λ (text : Bytes). IsRead since (text ++ end_line)) (sym (flat_map-cons call_text a (range_with_len (a + 1) k)))
    (parted since (call_text a) (flat_map call_text (range_with_len (a + 1) k)) end_line
    (call_read since a (flat_map call_text (range_with_len (a + 1) k) ++ end_line) least (omega (arith, most)) later
    (calls_read k (a + 1) (2000 * a) (omega arith) (omega (arith, most)) (omega arith))))

not_long : (n : ℕ) → n ≤ 67108864 → nat_lt 67108864 n ≡ false
not_long n h = grind (arith, nat_tests, h)

-- the script of 1 to 1,000 calls is read
pub script_read : (n : ℕ) → n ≤ 1000 → (said : List Line) × (script_of (generated n) ≡ Ok said)
unfolding generated script_of
script_read n few =
    let (said, is) = calls_read n 1 0 (omega arith) (omega (arith, few)) (omega arith) 0 in
    (said, ap (λ (t : Bool). cond t (Err (record { at = 67108864; kind = 7 })) (lines_in 0 0 0 (generated n))) (not_long (length (generated n)) (script_short n few)) ∙ is)
