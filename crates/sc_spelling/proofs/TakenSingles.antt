-- What is spelled is taken: a header that stands once, and those behind it.
use Rattle.std.proofs.Common.{◌≡◌, cond, None, Some, Ok, Err, List, ◌∷◌, ◌-◌, ◌≤◌, refl, sym, ap, subst, ◌∙◌, arith}
use Rattle.std.specs.Prelude.{is_some}
use Rattle.sc_syntax.specs.declared.left.Left.{Left}
use Rattle.sc_syntax.specs.declared.left.Singles.{Singles}
use Rattle.sc_syntax.specs.declared.left.Header.{Header}
use Rattle.sc_tokens.specs.Bytes.{Bytes}
use Rattle.sc_syntax.specs.Judging.{with_values as counted, taken_as, taken_once, in_line, with_header as taken}
use Rattle.sc_spelling.proofs.Entries.{Entry, Of, values_at}
use Rattle.sc_spelling.proofs.Readings.{ReadsOnce, held, either_of, are_apart, merged, Fits, ends_on, is_within, once_split, apart_none}
use Rattle.sc_spelling.proofs.OnceLaws.{Once, added, value_first}
use Rattle.sc_spelling.proofs.TakenLists.{Runs}

pub once_taken : {X : Type 0} (kind : Header) (once : Once kind X) (name value : Bytes) (entries : List Entry) → Runs entries → Runs (Of kind name value ∷ entries)
unfolding taken_as taken_once counted added held either_of are_apart
once_taken kind once name value entries runs left lists singles r f =
    let first = subst (λ (values : List Bytes). ReadsOnce once.read values (once.kept singles)) (value_first kind name value entries) (once.reads_once (Of kind name value ∷ entries) lists singles r) in
    let one = once_split once.read value (values_at kind entries) (once.kept singles) first in
    let free : once.kept left.singles ≡ None = apart_none (once.kept left.singles) (once.kept singles) one.0 one.2 (once.apart left lists singles f) in
    let one_held : held (once.kept singles) ≡ 1 = ap held one.2 in
    let fewer = once.counts lists None singles in
    let within = f.room in
    let next : Left = record left { room = left.room - 1; singles = once.put (Some one.0) left.singles } in
    let rest : Singles = once.put None singles in
    let room : 1 ≤ left.room = omega (arith, within, fewer, one_held) in
    let fits : Fits next lists rest = once.fits_at left lists singles (left.room - 1) (Some one.0) None f (omega (arith, within, fewer, one_held)) refl in
    let step : taken left name kind value ≡ Ok next =
    once.taken_so left name value ∙ ap (λ o. taken_once (is_some o) (added once.put left) (in_line once.read value)) free ∙ ap (taken_as (added once.put left)) one.1 ∙ ap (λ t. cond t (Ok next) (Err 11)) (is_within 1 left.room room) in
    let all : merged next.singles rest ≡ merged left.singles singles = once.merges left.singles singles (Some one.0) None (sym (ap (λ o. either_of o (once.kept singles)) free ∙ one.2)) in
    ends_on left next kind name value entries lists lists singles rest step (runs next lists rest (once.reads_less name value entries lists singles None r one.3) fits) refl all
