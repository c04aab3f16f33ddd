-- The ticks of a script that is read rise, and none is later than a moment may be.
use Rattle.std.proofs.Common.{◌≡◌, ℕ, zero, suc, ◌+◌, ◌-◌, ◌≤◌, Bool, true, false, cond, Option, None, Some, List, [], ◌∷◌, Result, Ok, Err, length, refl, arith}
use Rattle.std.specs.Prelude.{◌&&◌, not, ◌==◌, nat_lt, nat_le, take, codes}
use Rattle.std.specs.List.{slice_get}
use Rattle.std.proofs.lemmas.Bool.Decides.{nat_tests}
use Rattle.sc_value.specs.declared.ids.AppId.{AppId}
use Rattle.sc_value.specs.declared.ids.Place.{Place}
use Rattle.sc_tokens.specs.Cuts.{before, after, pieces}
use Rattle.sc_tokens.specs.Names.{same_bytes}
use Rattle.sc_tokens.specs.Numbers.{is_digits, number_in}
use Rattle.sc_terms.specs.declared.steps.Line.{Line}
use Rattle.sc_terms.specs.declared.steps.Line.TheVariants as lines
use Rattle.sc_tokens.specs.Bytes.{Bytes}
use Rattle.sc_hosts.proofs.Deliveries.{both}
use Rattle.sc_runs.specs.Following.{MOST_MOMENT}
use Rattle.sc_script.specs.ScriptTexts.{Fault, is_plain, decimal_upto, MOST_COUNT, one_word, tick_line, lost_line, two_words, turn_line, drop_line, three_words, incoming, alone, line_of, is_end, row_with, row_by, row_at, moment_after, with_first, with_later_lines as followed, lines_in, script_of, place_of, size_of, is_feed, SHORT, NO_END, LONG, MOST_BYTES}

-- a tick is not below the moment before it, and not later than a moment may be
unfoldable pub MayTick : ℕ → Line → Type 0
MayTick since (lines.Tick now) = (since ≤ now) × (now ≤ MOST_MOMENT)
MayTick since line = Unit {0}

-- so is each tick of the lines
unfoldable pub Rises : ℕ → List Line → Type 0
Rises since [] = Unit {0}
Rises since (line ∷ later) = MayTick since line × Rises (moment_after since line) later

-- ## What is read

unfoldable pub SaysRising : {K : Type 0} → ℕ → Result Line K → Type 0
SaysRising since (Ok line) = MayTick since line
SaysRising since (Err kind) = Unit {0}

unfoldable pub RowRises : {K : Type 0} → ℕ → Result (Line × ℕ) K → Type 0
RowRises since (Ok (line, size)) = MayTick since line
RowRises since (Err kind) = Unit {0}

unfoldable pub ReadRises : ℕ → Result (List Line) Fault → Type 0
ReadRises since (Ok given) = Rises since given
ReadRises since (Err fault) = Unit {0}

says-if : {K : Type 0} (b : Bool) (since : ℕ) (x y : Result Line K) → SaysRising since x → SaysRising since y → SaysRising since (cond b x y)
says-if true since x y p q = p
says-if false since x y p q = q

row-if : {K : Type 0} (b : Bool) (since : ℕ) (x y : Result (Line × ℕ) K) → RowRises since x → RowRises since y → RowRises since (cond b x y)
row-if true since x y p q = p
row-if false since x y p q = q

read-if : (b : Bool) (since : ℕ) (x y : Result (List Line) Fault) → ReadRises since x → ReadRises since y → ReadRises since (cond b x y)
read-if true since x y p q = p
read-if false since x y p q = q

-- ## The moment of a tick

given-if : (b : Bool) (value n : ℕ) → cond b (Some value) None ≡ Some n → (b ≡ true) × (value ≡ n)
given-if true value n e = (refl, cc)
given-if false value n e = cc

upto-most : (most value : ℕ) → nat_le value most ≡ true → value ≤ most
upto-most most value e = grind (arith, nat_tests, e)

-- a number that is read is at most as great as it may be
decimal-upto : (most : ℕ) (text : Bytes) (n : ℕ) → decimal_upto most text ≡ Some n → n ≤ most
unfolding decimal_upto
decimal-upto most text n e =
    let given : ((is_digits text && (nat_le (number_in text) most && is_plain text)) ≡ true) × (number_in text ≡ n) = given-if (is_digits text && (nat_le (number_in text) most && is_plain text)) (number_in text) n e in
    let test : nat_le (number_in text) most ≡ true = (both (nat_le (number_in text) most) (is_plain text) (both (is_digits text) (nat_le (number_in text) most && is_plain text) given.0).1).0 in
    rw (← given.1) (upto-most most (number_in text) test)

tick-by : (below : Bool) (since now : ℕ) → nat_lt now since ≡ below → now ≤ MOST_MOMENT → SaysRising {K = ℕ} since (cond below (Err 5) (Ok (lines.Tick now)))
unfolding SaysRising MayTick
tick-by true since now test most = tt
tick-by false since now test most = (grind (arith, nat_tests, test), most)

tick-rises : (since : ℕ) (now : Option ℕ) → ((n : ℕ) → now ≡ Some n → n ≤ MOST_MOMENT) → SaysRising since (tick_line since now)
unfolding tick_line SaysRising
tick-rises since None upto = tt
tick-rises since (Some now) upto = tick-by (nat_lt now since) since now refl (upto now refl)

-- ## The rows

one-rises : (since : ℕ) (word : Bytes) → SaysRising since (one_word word)
unfolding one_word SaysRising MayTick
one-rises since word = says-if (same_bytes word (codes "run")) since _ _ tt (says-if (same_bytes word (codes "end")) since _ _ tt tt)

lost-rises : (since : ℕ) (place : Option Place) → SaysRising since (lost_line place)
unfolding lost_line SaysRising MayTick
lost-rises since None = tt
lost-rises since (Some place) = tt

two-rises : (since : ℕ) (word more : Bytes) → SaysRising since (two_words since word more)
unfolding two_words SaysRising
two-rises since word more =
    says-if (same_bytes word (codes "tick")) since _ _ (tick-rises since (decimal_upto MOST_COUNT more) (decimal-upto MOST_COUNT more))
    (says-if (same_bytes word (codes "lost")) since _ _ (lost-rises since (place_of more)) tt)

turn-rises : (since : ℕ) (app : Result AppId ℕ) → SaysRising since (turn_line app)
unfolding turn_line SaysRising MayTick
turn-rises since (Ok app) = tt
turn-rises since (Err kind) = tt

drop-rises : (since : ℕ) (app : Result AppId ℕ) → SaysRising since (drop_line app)
unfolding drop_line SaysRising MayTick
drop-rises since (Ok app) = tt
drop-rises since (Err kind) = tt

three-rises : (since : ℕ) (word host serial : Bytes) → SaysRising since (three_words word host serial)
unfolding three_words SaysRising
three-rises since word host serial =
    says-if (same_bytes word (codes "turn")) since _ _ (turn-rises since _) (says-if (same_bytes word (codes "drop")) since _ _ (drop-rises since _) tt)

incoming-rises : (since : ℕ) (after : Bytes) (count : Option ℕ) (place : Option Place) → RowRises since (incoming after count place)
unfolding incoming RowRises MayTick
incoming-rises since after None place = tt
incoming-rises since after (Some count) None = tt
incoming-rises since after (Some count) (Some place) =
    row-if {K = ℕ} (is_feed (slice_get after count)) since (Ok (lines.In place (take count after), count + 1)) (Err SHORT) tt tt

alone-rises : (since : ℕ) (said : Result Line ℕ) → SaysRising since said → RowRises since (alone said)
unfolding alone SaysRising RowRises
alone-rises since (Ok line) rises = rises
alone-rises since (Err kind) rises = tt

line-rises : (since : ℕ) (after : Bytes) (words : List Bytes) → RowRises since (line_of since after words)
unfolding line_of RowRises
line-rises since after [] = tt
line-rises since after (a ∷ []) = alone-rises since (one_word a) (one-rises since a)
line-rises since after (a ∷ b ∷ []) = alone-rises since (two_words since a b) (two-rises since a b)
line-rises since after (a ∷ b ∷ c ∷ []) =
    row-if {K = ℕ} (same_bytes a (codes "in")) since (incoming after (size_of (decimal_upto 65536 c)) (place_of b)) (alone (three_words a b c))
    (incoming-rises since after (size_of (decimal_upto 65536 c)) (place_of b)) (alone-rises since (three_words a b c) (three-rises since a b c))
line-rises since after (a ∷ b ∷ c ∷ d ∷ words) = tt

row_with-rises : (since at len : ℕ) (after : Bytes) (said : Result (Line × ℕ) ℕ) → RowRises since said → RowRises since (row_with at len after said)
unfolding row_with RowRises
row_with-rises since at len after (Err kind) rises = tt
row_with-rises since at len after (Ok (line, more)) rises =
    row-if {K = Fault} (is_end line && not (length after == 0)) since (Err (record { at = at + len; kind = NO_END })) (Ok (line, len + more)) tt rises

row_by-rises : (at since : ℕ) (text : Bytes) (after : Option Bytes) → RowRises since (row_by at since text after)
unfolding row_by RowRises
row_by-rises at since text None = tt
row_by-rises at since text (Some after) = row_with-rises since at (length text + 1) after (line_of since after (pieces 32 text)) (line-rises since after (pieces 32 text))

row_at-rises : (at since : ℕ) (text : Bytes) → RowRises since (row_at at since text)
unfolding row_at
row_at-rises at since text = row_by-rises at since (before 10 text) (after 10 text)

-- ## The whole text

first-rises : (since : ℕ) (line : Line) (later : Result (List Line) Fault) → MayTick since line → ReadRises (moment_after since line) later → ReadRises since (with_first line later)
unfolding with_first ReadRises Rises
first-rises since line (Ok later) may rises = (may, rises)
first-rises since line (Err fault) may rises = tt

followed-rises : (since : ℕ) (row : Result (Line × ℕ) Fault) (later : Line → ℕ → Result (List Line) Fault) → RowRises since row
    → ((line : Line) (size : ℕ) → ReadRises (moment_after since line) (later line size)) → ReadRises since (followed row later)
unfolding followed RowRises ReadRises Rises
followed-rises since (Err fault) later may rises = tt
followed-rises since (Ok (line, size)) later may rises =
    read-if (is_end line) since (Ok (line ∷ [])) (with_first line (later line size)) (may, tt) (first-rises since line (later line size) may (rises line size))

lines-rise : (text : Bytes) (passed at since : ℕ) → ReadRises since (lines_in passed at since text)
unfolding lines_in ReadRises
lines-rise [] passed at since = tt
lines-rise (b ∷ bs) (suc passed) at since = lines-rise bs passed (at + 1) since
lines-rise (b ∷ bs) zero at since =
    followed-rises since (row_at at since (b ∷ bs)) (λ line size. lines_in (size - 1) (at + 1) (moment_after since line) bs) (row_at-rises at since (b ∷ bs))
    (λ line size. lines-rise bs (size - 1) (at + 1) (moment_after since line))

whole-rises : (text : Bytes) → ReadRises 0 (script_of text)
unfolding script_of ReadRises
whole-rises text = read-if (nat_lt MOST_BYTES (length text)) 0 (Err (record { at = MOST_BYTES; kind = LONG })) (lines_in 0 0 0 text) tt (lines-rise text 0 0 0)

read-rises : (read : Result (List Line) Fault) (given : List Line) → read ≡ Ok given → ReadRises 0 read → Rises 0 given
unfolding ReadRises
read-rises read given e rises = rw e at rises

-- the ticks of a script that is read rise
pub script-rises : (text : Bytes) (given : List Line) → script_of text ≡ Ok given → Rises 0 given
script-rises text given e = read-rises (script_of text) given e (whole-rises text)
