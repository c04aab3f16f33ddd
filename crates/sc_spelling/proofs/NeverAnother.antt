-- The written form of a message that is made is never read as another message.
use Rattle.std.proofs.Common.{◌≡◌, ℕ, true, false, Option, Some, None, Result, Ok, List, [], ◌∷◌, ◌++◌, ◌&&◌, ◌+◌, ◌<◌, ◌≤◌, ◌^◌, length, decimal, drop, map, refl, sym, ap, subst, ◌∙◌, arith}
use Rattle.std.specs.Prelude.{is_some, codes, nat_lt}
use Rattle.std.specs.Char.{is_ascii_digit}
use Rattle.std.proofs.lemmas.Bool.{false≢true}
use Rattle.sc_tokens.specs.Bytes.{Bytes}
use Rattle.sc_tokens.specs.Cuts.{before, has}
use Rattle.sc_tokens.specs.Numbers.{is_digits, number_in, number_below}
use Rattle.sc_tokens.specs.Tokens.{is_token, is_token_byte, is_one_line}
use Rattle.sc_value.specs.declared.parts.Field.{Field}
use Rattle.sc_value.specs.declared.message.Head.{Head}
use Rattle.sc_value.specs.declared.message.Request.{Request as Asked}
use Rattle.sc_value.specs.declared.message.Message.{Message}
use Rattle.sc_value.specs.declared.message.Message.TheVariants.{Request, Response}
use Rattle.sc_grammar.specs.Written.{text_of_message as written}
use Rattle.sc_syntax.specs.declared.left.Header.TheVariants as headers
use Rattle.sc_syntax.specs.declared.left.Left.{Left}
use Rattle.sc_syntax.specs.declared.left.Start.{Start}
use Rattle.sc_syntax.specs.declared.left.Start.TheVariants as starts
use Rattle.sc_syntax.specs.UriParts.{Fault, then_read}
use Rattle.sc_syntax.specs.Lines.{header_lines}
use Rattle.sc_syntax.specs.Folds.{text_without_folds as joined}
use Rattle.sc_syntax.specs.Judging.{header_named, left_with_line as judged, with_header as taken}
use Rattle.sc_syntax.specs.StartLines.{start_of}
use Rattle.sc_syntax.specs.Messages.{fault_at_place as placed, nothing_left, all_judged, message_with, message_from_parts as finished, message_in, message_of}
use Rattle.sc_syntax.proofs.ClassLaws.{class_lacks, before_joined}
use Rattle.sc_syntax.proofs.CutLaws.{some_same}
use Rattle.sc_syntax.proofs.DecimalLaws.{decimal_is_read}
use Rattle.sc_syntax.proofs.HostLaws.{number_digits, digits_are}
use Rattle.sc_syntax.proofs.ListedLaws.{if_some}
use Rattle.sc_syntax.proofs.ParameterLaws.{token_is}
use Rattle.sc_syntax.proofs.PartLaws.{then_ok}
use Rattle.sc_spelling.specs.SpelledHeads.{AreFieldsOf}
use Rattle.sc_spelling.specs.SpelledMessages.{head_in, IsSpelledBy}
use Rattle.sc_spelling.specs.Kept.{written_hops}
use Rattle.sc_spelling.specs.Made.{IsMadeStart, IsMade, HasCode}
use Rattle.sc_spelling.proofs.AddressTexts.{number_value}
use Rattle.sc_spelling.proofs.Entries.{entry_of, values_at, then_taken, all_taken}
use Rattle.sc_spelling.proofs.KeptParts.{number_small}
use Rattle.sc_spelling.proofs.LineLaws.{AreSpelledBy, line_judged}
use Rattle.sc_spelling.proofs.MadeLaws.{start_made}
use Rattle.sc_spelling.proofs.Readings.{ReadsAll, ReadsOnce}
use Rattle.sc_spelling.proofs.ReadLines.{placed_ok}
use Rattle.sc_spelling.proofs.ReadStarts.{IsStartLine, start_back}
use Rattle.sc_spelling.proofs.ReadWhole.{spelled_by}
use Rattle.sc_spelling.proofs.Running.{AreOneLine, head_reads}
use Rattle.sc_spelling.proofs.StartLaws.{start_at, start_is_read, line_joined, words_line}
use Rattle.sc_spelling.proofs.WholeLaws.{block, lines_of, start_is, lines_are, message_done, text_cut, regroup}
use Rattle.sc_spelling.proofs.WrittenFields.{text_of}
use Rattle.sc_spelling.proofs.WrittenHeads.{fields_are, fields_spelled}
use Rattle.sc_spelling.proofs.WrittenLaws.{first_line, start_spelled, fields_of, written_is, hops_kept}

-- ## The status code

spaces : (is_ascii_digit 32 ≡ false) × (is_token_byte 32 ≡ false) × (has 32 (codes "SIP/2.0") ≡ false) × (is_token (codes "SIP/2.0") ≡ false)
unfolding is_token is_token_byte has
spaces = (refl, refl, refl, refl)

digits_lack : (limit : ℕ) (digits : Bytes) (n : ℕ) → number_below limit digits ≡ Some n → has 32 digits ≡ false
digits_lack limit digits n h = class_lacks is_ascii_digit 32 digits spaces.0 (digits_are digits (number_digits limit digits (ap is_some h))).1

one_value : (a b : ℕ) (digits : Bytes) (n k : ℕ) → number_below a digits ≡ Some n → number_below b digits ≡ Some k → n ≡ k
unfolding number_below
one_value a b digits n k g h =
    let first = if_some (is_digits digits && nat_lt (number_in digits) a) (Some (number_in digits)) n g in
    let second = if_some (is_digits digits && nat_lt (number_in digits) b) (Some (number_in digits)) k h in
    sym (some_same (number_in digits) n first.1) ∙ some_same (number_in digits) k second.1

small : (n : ℕ) → n < 65536 → n < 2 ^ 64
small n h = omega (arith, h)

decimal_told : (code : ℕ) → code < 65536 → number_below (2 ^ 64) (decimal code) ≡ Some code
decimal_told code h = decimal_is_read code (2 ^ 64) (omega arith) (small code h)

below_700 : (n : ℕ) → n < 700 → n ≤ 699
below_700 n h = omega (arith, h)

code_told : (code : ℕ) (reason : Bytes) (start : Start) → code < 65536 → IsStartLine (codes "SIP/2.0" ++ 32 ∷ (decimal code ++ 32 ∷ reason)) start → (100 ≤ code) × (code ≤ 699)
unfolding IsStartLine
code_told code reason (starts.Request method uri) less (token, text, spelled, is) =
    let lacks = class_lacks is_token_byte 32 method spaces.1 (token_is method token).1 in
    let same : codes "SIP/2.0" ≡ method =
    sym (before_joined 32 (codes "SIP/2.0") (decimal code ++ 32 ∷ reason) spaces.2) ∙ ap (before 32) is ∙ before_joined 32 method (text ++ 32 ∷ codes "SIP/2.0") lacks in
    absurd (false≢true (sym spaces.3 ∙ ap is_token same ∙ token))
code_told code reason (starts.Status read phrase) less (one, digits, (three, number, least), is) =
    let told = decimal_told code less in
    let behind : decimal code ++ 32 ∷ reason ≡ digits ++ 32 ∷ phrase = ap (drop 8) is in
    let same : decimal code ≡ digits =
    sym (before_joined 32 (decimal code) reason (digits_lack (2 ^ 64) (decimal code) code told)) ∙ ap (before 32) behind ∙ before_joined 32 digits phrase (digits_lack 700 digits read number) in
    let value : read ≡ code = one_value 700 (2 ^ 64) digits read code number (ap (number_below (2 ^ 64)) (sym same) ∙ told) in
    (subst (λ (n : ℕ). 100 ≤ n) value least, below_700 code (subst (λ (n : ℕ). n < 700) value (number_small 700 digits read number)))

-- a start line that is read has a code
has_code : (message : Message) (start : Start) → IsMadeStart message → start_of (first_line message) ≡ Ok start → HasCode message
unfolding IsMadeStart HasCode first_line
has_code (Request request) start made h = tt
has_code (Response response) start made h = code_told response.code response.reason start made.1 (start_back (codes "SIP/2.0" ++ 32 ∷ (decimal response.code ++ 32 ∷ response.reason)) start h)

-- ## The start line, read or not

record IsFirstLine (line : Bytes) : Type 0 where
  one : is_one_line line ≡ true
  some : (b : ℕ) × (bs : Bytes) × (line ≡ b ∷ bs)

request_line_is : (request : Asked) → IsMadeStart (Request request) → IsFirstLine (first_line (Request request))
unfolding HasCode
request_line_is request made =
    let first = start_is_read (first_line (Request request)) (Request request) (start_spelled (Request request) (start_made (Request request) made tt)) in record { one = first.one; some = first.some }

status_line_is : (code : ℕ) (reason : Bytes) → code < 65536 → is_one_line reason ≡ true → IsFirstLine (codes "SIP/2.0" ++ 32 ∷ (decimal code ++ 32 ∷ reason))
status_line_is code reason less one =
    let rest = decimal code ++ 32 ∷ reason in
    let number = (number_value code (2 ^ 64) (omega arith) (small code less)).0 in
    record {
      one = line_joined (codes "SIP/2.0") (32 ∷ rest) words_line.0 (line_joined (32 ∷ []) rest words_line.1 (line_joined (decimal code) (32 ∷ reason) number (line_joined (32 ∷ []) reason words_line.1 one)));
      some = (83, codes "IP/2.0" ++ 32 ∷ rest, refl);
    }

first_made : (message : Message) → IsMadeStart message → IsFirstLine (first_line message)
unfolding IsMadeStart first_line
first_made (Request request) made = request_line_is request made
first_made (Response response) made = status_line_is response.code response.reason made.1 made.0

-- ## One reading

all_same : {X : Type 0} (read : Bytes → Option (List X)) (values : List Bytes) (a b : List X) → ReadsAll read values a → ReadsAll read values b → a ≡ b
unfolding ReadsAll
all_same read [] a b g h = g ∙ sym h
all_same {X} read (value ∷ values) a b (first, more, one, rest, is) (second, others, two, behind, so) =
    let same : first ≡ second = some_same first second (sym one ∙ two) in
    is ∙ ap (λ l. l ++ more) same ∙ ap (λ l. second ++ l) (all_same read values more others rest behind) ∙ sym so

once_same : {X : Type 0} (read : Bytes → Option X) (values : List Bytes) (a b : Option X) → ReadsOnce read values a → ReadsOnce read values b → a ≡ b
unfolding ReadsOnce
once_same read [] a b g h = g ∙ sym h
once_same read (value ∷ []) a b (x, one, is) (y, two, so) = is ∙ sym one ∙ two ∙ sym so
once_same read (value ∷ next ∷ more) a b g h = absurd g

same_heads : (a b : Head) → a.via ≡ b.via → a.route ≡ b.route → a.record_route ≡ b.record_route → a.from ≡ b.from → a.to ≡ b.to → a.call_id ≡ b.call_id → a.cseq ≡ b.cseq → a.contact ≡ b.contact → a.others ≡ b.others → a.body ≡ b.body → a ≡ b
same_heads a b v r rr f t i s c o d =
    ap (λ x. record a { via = x }) v ∙ ap (λ x. record a { via = b.via; route = x }) r ∙ ap (λ x. record a { via = b.via; route = b.route; record_route = x }) rr
    ∙ ap (λ x. record a { via = b.via; route = b.route; record_route = b.record_route; from = x }) f ∙ ap (λ x. record a { via = b.via; route = b.route; record_route = b.record_route; from = b.from; to = x }) t
    ∙ ap (λ x. record b { call_id = x; cseq = a.cseq; contact = a.contact; others = a.others; body = a.body }) i ∙ ap (λ x. record b { cseq = x; contact = a.contact; others = a.others; body = a.body }) s
    ∙ ap (λ x. record b { contact = x; others = a.others; body = a.body }) c ∙ ap (λ x. record b { others = x; body = a.body }) o ∙ ap (λ x. record b { body = x }) d

-- the same fields are those of one head
one_head : (fields : List Field) (a b : Head) (hops others len more : Option ℕ) → AreOneLine fields → AreFieldsOf fields a hops len → AreFieldsOf fields b others more → a.body ≡ b.body → (a ≡ b) × (hops ≡ others)
one_head fields a b hops others len more one g h body =
    let first = head_reads fields a hops len one g in
    let second = head_reads fields b others more one h in
    let entries = map entry_of fields in (
      same_heads a b (all_same _ (values_at headers.Via entries) a.via b.via first.via second.via) (all_same _ (values_at headers.Route entries) a.route b.route first.route second.route)
          (all_same _ (values_at headers.RecordRoute entries) a.record_route b.record_route first.record_route second.record_route)
          (some_same a.from b.from (once_same _ (values_at headers.From entries) (Some a.from) (Some b.from) first.from second.from)) (some_same a.to b.to (once_same _ (values_at headers.To entries) (Some a.to) (Some b.to) first.to second.to))
          (some_same a.call_id b.call_id (once_same Some (values_at headers.CallId entries) (Some a.call_id) (Some b.call_id) first.call_id second.call_id))
          (some_same a.cseq b.cseq (once_same _ (values_at headers.CSeq entries) (Some a.cseq) (Some b.cseq) first.cseq second.cseq))
          (all_same _ (values_at headers.Contact entries) a.contact b.contact first.contact second.contact) (sym first.others.0 ∙ second.others.0) body,
      once_same _ (values_at headers.MaxForwards entries) hops others first.max_forwards second.max_forwards,
    )

-- ## The lines, read

lines_taken : (lines : List Bytes) (fields : List Field) (at : ℕ) (left final : Left) → AreSpelledBy lines fields → all_judged at left lines ≡ Ok final → all_taken left (map entry_of fields) ≡ Ok final
unfolding AreSpelledBy all_taken all_judged then_taken entry_of
lines_taken [] [] at left final h r = let same : ◌≡◌ {A = Result Left Fault} (Ok left) (Ok final) = r in let is : left ≡ final = cc in ap Ok is
lines_taken [] (field ∷ fields) at left final h r = absurd h
lines_taken (line ∷ lines) [] at left final h r = absurd h
lines_taken (line ∷ lines) (field ∷ fields) at left final h r =
    let one = then_ok (placed at (judged left (joined line))) (λ next. all_judged (at + length line + 2) next lines) final r in
    let first : taken left field.name (header_named field.name) field.value ≡ Ok one.0 = sym (line_judged left line field h.0) ∙ placed_ok at (judged left (joined line)) one.0 one.1 in
    ap (λ t. then_taken t (λ next. all_taken next (map entry_of fields))) first ∙ lines_taken lines fields (at + length line + 2) one.0 final h.1 one.2

-- ## The whole

same_start : (read : Result Start ℕ) (a b : Start) → read ≡ Ok a → read ≡ Ok b → a ≡ b
same_start read a b g h = let both_read : ◌≡◌ {A = Result Start ℕ} (Ok a) (Ok b) = sym g ∙ h in cc

-- a start line, lines and a body that are read: what they spell
record ReadsAs (line : Bytes) (fields : List Field) (body : Bytes) (other : Message) : Type 0 where
  start : Start
  read : start_of line ≡ Ok start
  by : IsSpelledBy line fields body other

read_as : (line : Bytes) (lines : List Bytes) (fields : List Field) (body : Bytes) (other : Message) → is_one_line line ≡ true → AreSpelledBy lines fields → message_in (line ++ block lines) body ≡ Ok other → ReadsAs line fields body other
unfolding message_in
read_as line lines fields body other one spelled h =
    let head = line ++ block lines in
    let cut : then_read (placed 0 (start_of line)) (λ s. then_read (all_judged (length line + 2) nothing_left lines) (λ left. placed (length head + 2) (finished s left body))) ≡ Ok other =
    sym (
    ap (λ l. then_read (placed 0 (start_of l)) (λ s. then_read (all_judged (length l + 2) nothing_left (header_lines head)) (λ left. placed (length head + 2) (finished s left body)))) (start_is line lines one)
    ∙ ap (λ ls. then_read (placed 0 (start_of line)) (λ s. then_read (all_judged (length line + 2) nothing_left ls) (λ left. placed (length head + 2) (finished s left body)))) (lines_are line lines fields one spelled)
    )
    ∙ h in
    let first = then_ok (placed 0 (start_of line)) _ other cut in
    let second = then_ok (all_judged (length line + 2) nothing_left lines) _ other first.2 in
    let read = placed_ok 0 (start_of line) first.0 first.1 in
    record {
      start = first.0;
      read = read;
      by = spelled_by line fields body first.0 second.0 other (start_back line first.0 read) (lines_taken lines fields (length line + 2) nothing_left second.0 spelled second.1) (placed_ok (length head + 2) (finished first.0 second.0 body) other second.2);
    }

at_most : (n : ℕ) → n < 256 → n ≤ 255
at_most n h = omega (arith, h)

few_hops : (message : Message) → IsMadeStart message → (n : ℕ) → written_hops message ≡ Some n → n ≤ 255
unfolding IsMadeStart written_hops
few_hops (Request request) made n is = subst (λ (k : ℕ). k ≤ 255) (some_same request.hops n is) (at_most request.hops made.2)
few_hops (Response response) made n is = let bad : ◌≡◌ {A = Option ℕ} None (Some n) = is in cc

pub never_another : (message other : Message) → IsMade message → message_of (written message) ≡ Ok other → other ≡ message
never_another message other made h =
    let line = first_line message in
    let fields = fields_of message in
    let head = head_in message in
    let few = few_hops message made.0 in
    let kept = made.1 in
    let all = lines_of fields (text_of fields) (fields_spelled (written_hops message) head kept few) in
    let first = first_made message made.0 in
    let cut : message_in (line ++ block all.lines) head.body ≡ Ok other =
    sym (ap message_of (written_is message ∙ regroup line (text_of fields) head.body (block all.lines) all.is) ∙ text_cut line all.lines fields head.body first.one first.some all.spelled) ∙ h in
    let reads = read_as line all.lines fields head.body other first.one all.spelled cut in
    let by = reads.by in
    let own = start_is_read line message (start_spelled message (start_made message made.0 (has_code message reads.start made.0 reads.read))) in
    let starts = same_start (start_of line) (start_at other) (start_at message) (start_is_read line other by.begins).read own.read in
    let heads = one_head fields (head_in other) head by.hops (written_hops message) by.len (Some (length head.body)) all.one by.headers (fields_are (written_hops message) head kept few) by.ends in
    sym (message_done by.hops (head_in other) other by.has_hops refl)
    ∙ ap (λ s. message_with s by.hops (head_in other)) starts ∙ ap (λ o. message_with (start_at message) o (head_in other)) heads.1 ∙ ap (message_with (start_at message) (written_hops message)) heads.0
    ∙ message_done (written_hops message) head message (hops_kept message) refl
