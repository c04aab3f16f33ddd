-- Parameters, read from the front.
use Rattle.std.proofs.Common.{◌≡◌, ℕ, Option, Some, None, Result, Ok, Err, List, [], ◌∷◌, ◌++◌, ◌+◌, length, refl, sym, ap, ◌∙◌, append_assoc, arith}
use Rattle.sc_value.specs.declared.parts.Param.{Param}
use Rattle.sc_tokens.specs.Bytes.{Bytes}
use Rattle.sc_tokens.specs.Cuts.{before, after, pieces}
use Rattle.sc_syntax.specs.UriParts.{Fault, then_read, param_at, params_in}
use Rattle.sc_syntax.proofs.CutLaws.{pieces_more, pieces_last}

-- those that are read already, before the others
abbrev pub behind : List Param → Result (List Param) Fault → Result (List Param) Fault
behind params more = then_read more (λ others. Ok (params ++ others))

pub behind_none : (r : Result (List Param) Fault) → behind [] r ≡ r
unfolding then_read
behind_none (Ok params) = refl
behind_none (Err fault) = refl

behind_more : (params : List Param) (param : Param) (r : Result (List Param) Fault) → behind params (then_read r (λ others. Ok (param ∷ others))) ≡ behind (params ++ param ∷ []) r
unfolding then_read
behind_more params param (Ok others) = ap Ok (sym (append_assoc params (param ∷ []) others))
behind_more params param (Err fault) = refl

param_read : (at : ℕ) (text : Bytes) (more : List Bytes) (param : Param) → param_at at text ≡ Ok param → params_in at (text ∷ more) ≡ then_read (params_in (at + length text + 1) more) (λ others. Ok (param ∷ others))
unfolding params_in then_read
param_read at text more param h = ap (λ r. then_read r (λ p. then_read (params_in (at + length text + 1) more) (λ others. Ok (p ∷ others)))) h

param_not : (at : ℕ) (text : Bytes) (more : List Bytes) (fault : Fault) → param_at at text ≡ Err fault → params_in at (text ∷ more) ≡ Err fault
unfolding params_in then_read
param_not at text more fault h = ap (λ r. then_read r (λ p. then_read (params_in (at + length text + 1) more) (λ others. Ok (p ∷ others)))) h

pub params_on : (params : List Param) (at : ℕ) (text rest piece : Bytes) (param : Param) → piece ≡ before 59 text → after 59 text ≡ Some rest → param_at at piece ≡ Ok param
    → behind (params ++ param ∷ []) (params_in (at + (length piece + 1)) (pieces 59 rest)) ≡ behind params (params_in at (pieces 59 text))
params_on params at text rest piece param is h g =
    let same : ◌≡◌ {A = ℕ} (at + (length piece + 1)) (at + length piece + 1) = omega arith in
    ap (λ n. behind (params ++ param ∷ []) (params_in n (pieces 59 rest))) same
    ∙ sym (ap (λ l. behind params (params_in at l)) (pieces_more 59 text rest h ∙ ap (λ l. l ∷ pieces 59 rest) (sym is)) ∙ ap (behind params) (param_read at piece (pieces 59 rest) param g)
    ∙ behind_more params param (params_in (at + length piece + 1) (pieces 59 rest)))

last_read : (at : ℕ) (params : List Param) (param : Param) → behind params (then_read (params_in at []) (λ others. Ok (param ∷ others))) ≡ Ok (params ++ param ∷ [])
unfolding then_read params_in
last_read at params param = refl

pub params_last : (params : List Param) (at : ℕ) (text : Bytes) (param : Param) → after 59 text ≡ None → param_at at (before 59 text) ≡ Ok param
    → behind params (params_in at (pieces 59 text)) ≡ Ok (params ++ param ∷ [])
params_last params at text param h g =
    ap (λ l. behind params (params_in at l)) (pieces_last 59 text h) ∙ ap (behind params) (param_read at (before 59 text) [] param g) ∙ last_read (at + length (before 59 text) + 1) params param

fault_stays : (params : List Param) (fault : Fault) → behind params (Err fault) ≡ Err fault
unfolding then_read
fault_stays params fault = refl

by_after : (params : List Param) (at : ℕ) (text : Bytes) (fault : Fault) (o : Option Bytes) → after 59 text ≡ o → param_at at (before 59 text) ≡ Err fault → behind params (params_in at (pieces 59 text)) ≡ Err fault
by_after params at text fault None h g =
    ap (λ l. behind params (params_in at l)) (pieces_last 59 text h) ∙ ap (behind params) (param_not at (before 59 text) [] fault g) ∙ fault_stays params fault
by_after params at text fault (Some rest) h g =
    ap (λ l. behind params (params_in at l)) (pieces_more 59 text rest h) ∙ ap (behind params) (param_not at (before 59 text) (pieces 59 rest) fault g) ∙ fault_stays params fault

pub params_fault : (params : List Param) (at : ℕ) (text : Bytes) (fault : Fault) → param_at at (before 59 text) ≡ Err fault → behind params (params_in at (pieces 59 text)) ≡ Err fault
params_fault params at text fault g = by_after params at text fault (after 59 text) refl g
