-- A header that stands once: where it is kept among those, and how all goes on with another there.
use Rattle.std.proofs.Common.{◌≡◌, ℕ, cond, Option, Some, Result, List, ◌∷◌, ◌+◌, ◌≤◌, refl, ap, true, arith}
use Rattle.std.specs.Prelude.{is_some}
use Rattle.sc_syntax.specs.declared.left.Left.{Left}
use Rattle.sc_syntax.specs.declared.left.Lists.{Lists}
use Rattle.sc_syntax.specs.declared.left.Singles.{Singles}
use Rattle.sc_syntax.specs.declared.left.Header.{Header}
use Rattle.sc_syntax.specs.declared.left.Header.TheVariants as headers
use Rattle.sc_value.specs.declared.parts.Address.{Address}
use Rattle.sc_value.specs.declared.parts.CSeq.{CSeq}
use Rattle.sc_tokens.specs.Bytes.{Bytes}
use Rattle.sc_tokens.specs.Numbers.{number_of}
use Rattle.sc_syntax.specs.Addresses.{address_of}
use Rattle.sc_syntax.specs.Sequences.{cseq_of, hops_of}
use Rattle.sc_syntax.specs.Judging.{with_values as counted, taken_once, with_from, with_to, with_call_id, with_cseq, with_hops, with_length, in_line, with_header as taken}
use Rattle.sc_spelling.proofs.Entries.{Entry, Of, is_kind, number_at, values_at, fields_at, kind_itself}
use Rattle.sc_spelling.proofs.Readings.{ReadsOnce, Reads, held, either_of, are_apart, count, merged, Fits}

-- the value is kept, where there is room for it
unfoldable pub added : {X : Type 0} → (Option X → Singles → Singles) → Left → X → Result Left ℕ
added put left x = counted 1 (record left { singles = put (Some x) left.singles })

-- how its value is read, where it is kept, and what another value there changes
pub record Once (kind : Header) (X : Type 0) : Type 0 where
  pub read : Bytes → Option X
  pub kept : Singles → Option X
  pub put : Option X → Singles → Singles
  pub taken_so : (left : Left) (name value : Bytes) → taken left name kind value ≡ taken_once (is_some (kept left.singles)) (added put left) (in_line read value)
  pub kept_put : (o : Option X) (singles : Singles) → kept (put o singles) ≡ o
  pub put_back : (o : Option X) (singles : Singles) → put (kept singles) (put o singles) ≡ singles
  pub counts : (lists : Lists) (o : Option X) (singles : Singles) → count lists (put o singles) + held (kept singles) ≡ count lists singles + held o
  pub merges : (a b : Singles) (o p : Option X) → either_of o p ≡ either_of (kept a) (kept b) → merged (put o a) (put p b) ≡ merged a b
  pub apart : (left : Left) (lists : Lists) (singles : Singles) → Fits left lists singles → are_apart (kept left.singles) (kept singles) ≡ true
  pub fits_at : (left : Left) (lists : Lists) (singles : Singles) (room : ℕ) (o p : Option X) → Fits left lists singles → count lists (put p singles) ≤ room → are_apart o p ≡ true → Fits (record left { room = room; singles = put o left.singles }) lists (put p singles)
  pub reads_once : (entries : List Entry) (lists : Lists) (singles : Singles) → Reads entries lists singles → ReadsOnce read (values_at kind entries) (kept singles)
  pub reads_more : (name value : Bytes) (entries : List Entry) (lists : Lists) (singles : Singles) (o : Option X) → Reads entries lists singles → ReadsOnce read (value ∷ values_at kind entries) o → Reads (Of kind name value ∷ entries) lists (put o singles)
  pub reads_less : (name value : Bytes) (entries : List Entry) (lists : Lists) (singles : Singles) (o : Option X) → Reads (Of kind name value ∷ entries) lists singles → ReadsOnce read (values_at kind entries) o → Reads entries lists (put o singles)

pub value_first : (kind : Header) (name value : Bytes) (entries : List Entry) → values_at kind (Of kind name value ∷ entries) ≡ value ∷ values_at kind entries
unfolding values_at
value_first kind name value entries = ap (λ t. cond t (value ∷ values_at kind entries) (values_at kind entries)) (kind_itself kind)

-- ## The six

pub from_once : Once headers.From Address
unfolding values_at fields_at is_kind number_at taken added with_from count
from_once = record {
  read = address_of;
  kept = λ s. s.from;
  put = λ o s. record s { from = o };
  taken_so = λ left name value. refl;
  kept_put = λ o singles. refl;
  put_back = λ o singles. refl;
  counts = λ lists o singles. omega arith;
  merges = λ a b o p e. ap (λ z. record (merged a b) { from = z }) e;
  apart = λ left lists singles f. f.from;
  fits_at = λ left lists singles room o p f within apart. record { room = within; begun = f.begun; from = apart; to = f.to; call_id = f.call_id; cseq = f.cseq; max_forwards = f.max_forwards; content_length = f.content_length };
  reads_once = λ entries lists singles r. r.from;
  reads_more = λ name value entries lists singles o r once. record { via = r.via; route = r.route; record_route = r.record_route; contact = r.contact; others = r.others; from = once; to = r.to; call_id = r.call_id; cseq = r.cseq; max_forwards = r.max_forwards; content_length = r.content_length };
  reads_less = λ name value entries lists singles o r once. record { via = r.via; route = r.route; record_route = r.record_route; contact = r.contact; others = r.others; from = once; to = r.to; call_id = r.call_id; cseq = r.cseq; max_forwards = r.max_forwards; content_length = r.content_length };
}

pub to_once : Once headers.To Address
unfolding values_at fields_at is_kind number_at taken added with_to count
to_once = record {
  read = address_of;
  kept = λ s. s.to;
  put = λ o s. record s { to = o };
  taken_so = λ left name value. refl;
  kept_put = λ o singles. refl;
  put_back = λ o singles. refl;
  counts = λ lists o singles. omega arith;
  merges = λ a b o p e. ap (λ z. record (merged a b) { to = z }) e;
  apart = λ left lists singles f. f.to;
  fits_at = λ left lists singles room o p f within apart. record { room = within; begun = f.begun; from = f.from; to = apart; call_id = f.call_id; cseq = f.cseq; max_forwards = f.max_forwards; content_length = f.content_length };
  reads_once = λ entries lists singles r. r.to;
  reads_more = λ name value entries lists singles o r once. record { via = r.via; route = r.route; record_route = r.record_route; contact = r.contact; others = r.others; from = r.from; to = once; call_id = r.call_id; cseq = r.cseq; max_forwards = r.max_forwards; content_length = r.content_length };
  reads_less = λ name value entries lists singles o r once. record { via = r.via; route = r.route; record_route = r.record_route; contact = r.contact; others = r.others; from = r.from; to = once; call_id = r.call_id; cseq = r.cseq; max_forwards = r.max_forwards; content_length = r.content_length };
}

pub call_id_once : Once headers.CallId Bytes
unfolding values_at fields_at is_kind number_at taken added with_call_id count
call_id_once = record {
  read = Some;
  kept = λ s. s.call_id;
  put = λ o s. record s { call_id = o };
  taken_so = λ left name value. refl;
  kept_put = λ o singles. refl;
  put_back = λ o singles. refl;
  counts = λ lists o singles. omega arith;
  merges = λ a b o p e. ap (λ z. record (merged a b) { call_id = z }) e;
  apart = λ left lists singles f. f.call_id;
  fits_at = λ left lists singles room o p f within apart. record { room = within; begun = f.begun; from = f.from; to = f.to; call_id = apart; cseq = f.cseq; max_forwards = f.max_forwards; content_length = f.content_length };
  reads_once = λ entries lists singles r. r.call_id;
  reads_more = λ name value entries lists singles o r once. record { via = r.via; route = r.route; record_route = r.record_route; contact = r.contact; others = r.others; from = r.from; to = r.to; call_id = once; cseq = r.cseq; max_forwards = r.max_forwards; content_length = r.content_length };
  reads_less = λ name value entries lists singles o r once. record { via = r.via; route = r.route; record_route = r.record_route; contact = r.contact; others = r.others; from = r.from; to = r.to; call_id = once; cseq = r.cseq; max_forwards = r.max_forwards; content_length = r.content_length };
}

pub cseq_once : Once headers.CSeq CSeq
unfolding values_at fields_at is_kind number_at taken added with_cseq count
cseq_once = record {
  read = cseq_of;
  kept = λ s. s.cseq;
  put = λ o s. record s { cseq = o };
  taken_so = λ left name value. refl;
  kept_put = λ o singles. refl;
  put_back = λ o singles. refl;
  counts = λ lists o singles. omega arith;
  merges = λ a b o p e. ap (λ z. record (merged a b) { cseq = z }) e;
  apart = λ left lists singles f. f.cseq;
  fits_at = λ left lists singles room o p f within apart. record { room = within; begun = f.begun; from = f.from; to = f.to; call_id = f.call_id; cseq = apart; max_forwards = f.max_forwards; content_length = f.content_length };
  reads_once = λ entries lists singles r. r.cseq;
  reads_more = λ name value entries lists singles o r once. record { via = r.via; route = r.route; record_route = r.record_route; contact = r.contact; others = r.others; from = r.from; to = r.to; call_id = r.call_id; cseq = once; max_forwards = r.max_forwards; content_length = r.content_length };
  reads_less = λ name value entries lists singles o r once. record { via = r.via; route = r.route; record_route = r.record_route; contact = r.contact; others = r.others; from = r.from; to = r.to; call_id = r.call_id; cseq = once; max_forwards = r.max_forwards; content_length = r.content_length };
}

pub max_forwards_once : Once headers.MaxForwards ℕ
unfolding values_at fields_at is_kind number_at taken added with_hops count
max_forwards_once = record {
  read = hops_of;
  kept = λ s. s.hops;
  put = λ o s. record s { hops = o };
  taken_so = λ left name value. refl;
  kept_put = λ o singles. refl;
  put_back = λ o singles. refl;
  counts = λ lists o singles. omega arith;
  merges = λ a b o p e. ap (λ z. record (merged a b) { hops = z }) e;
  apart = λ left lists singles f. f.max_forwards;
  fits_at = λ left lists singles room o p f within apart. record { room = within; begun = f.begun; from = f.from; to = f.to; call_id = f.call_id; cseq = f.cseq; max_forwards = apart; content_length = f.content_length };
  reads_once = λ entries lists singles r. r.max_forwards;
  reads_more = λ name value entries lists singles o r once. record { via = r.via; route = r.route; record_route = r.record_route; contact = r.contact; others = r.others; from = r.from; to = r.to; call_id = r.call_id; cseq = r.cseq; max_forwards = once; content_length = r.content_length };
  reads_less = λ name value entries lists singles o r once. record { via = r.via; route = r.route; record_route = r.record_route; contact = r.contact; others = r.others; from = r.from; to = r.to; call_id = r.call_id; cseq = r.cseq; max_forwards = once; content_length = r.content_length };
}

pub content_length_once : Once headers.ContentLength ℕ
unfolding values_at fields_at is_kind number_at taken added with_length count
content_length_once = record {
  read = number_of;
  kept = λ s. s.length;
  put = λ o s. record s { length = o };
  taken_so = λ left name value. refl;
  kept_put = λ o singles. refl;
  put_back = λ o singles. refl;
  counts = λ lists o singles. omega arith;
  merges = λ a b o p e. ap (λ z. record (merged a b) { length = z }) e;
  apart = λ left lists singles f. f.content_length;
  fits_at = λ left lists singles room o p f within apart. record { room = within; begun = f.begun; from = f.from; to = f.to; call_id = f.call_id; cseq = f.cseq; max_forwards = f.max_forwards; content_length = apart };
  reads_once = λ entries lists singles r. r.content_length;
  reads_more = λ name value entries lists singles o r once. record { via = r.via; route = r.route; record_route = r.record_route; contact = r.contact; others = r.others; from = r.from; to = r.to; call_id = r.call_id; cseq = r.cseq; max_forwards = r.max_forwards; content_length = once };
  reads_less = λ name value entries lists singles o r once. record { via = r.via; route = r.route; record_route = r.record_route; contact = r.contact; others = r.others; from = r.from; to = r.to; call_id = r.call_id; cseq = r.cseq; max_forwards = r.max_forwards; content_length = once };
}
