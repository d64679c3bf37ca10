-- Reports of messages, one behind the other.
use Rattle.std.proofs.Common.{◌≡◌, refl, sym, ap, ◌∙◌, subst, ℕ, zero, suc, ◌+◌, ◌<◌, ◌≤◌, arith, Bool, true, false, List, [], ◌∷◌, ◌++◌, length, take, cond, Option, Some, None, option_map, slice_get}
use Rattle.std.specs.List.{filter}
use Rattle.std.specs.Str.{str_eq_ignore_ascii_case}
use Rattle.std.proofs.lemmas.List.{append-nil, append_assoc, take_all}
use Rattle.rx_types.specs.Domain.{Domain}
use Rattle.rx_graph.specs.Graph.{Graph}
use Rattle.rx_graph.specs.Typed.{Typed, typed}
use Rattle.rx_checks.specs.declared.report.Report.{Report}
use Rattle.rx_checks.specs.Reports.{IsReport}
use Rattle.rx_lines.specs.Reports.{lines_text}
use Rattle.rx_report.specs.declared.reported.Reported.{Reported}
use Rattle.rx_report.specs.Counts.{Counts, none_counted, counted, closing_text}
use Rattle.rx_report.specs.Reported.{messages_of, counts_in, all_counted, AreReports, all_lines, Adds, AddsIf, IsReported}

all_counted_more : (rs : List Report) (r : Report) (c : Counts) → all_counted (rs ++ r ∷ []) c ≡ counted r.lines.items (all_counted rs c)
all_counted_more [] r c = refl
all_counted_more (s ∷ rs) r c = all_counted_more rs r (counted s.lines.items c)

module _ (domains : List Domain) (splits : ℕ) where
  are_more : (ms : List Graph) (rs : List Report) (m : Graph) (r : Report) → AreReports domains splits ms rs → IsReport domains m splits r → AreReports domains splits (ms ++ m ∷ []) (rs ++ r ∷ [])
  are_more [] [] m r are is = (is, tt)
  are_more [] (s ∷ rs) m r are is = absurd are
  are_more (n ∷ ms) [] m r are is = absurd are
  are_more (n ∷ ms) (s ∷ rs) m r are is = (are.0, are_more ms rs m r are.1 is)

  lines_more : (ms : List Graph) (rs : List Report) (m : Graph) (r : Report) → AreReports domains splits ms rs → all_lines domains splits (ms ++ m ∷ []) (rs ++ r ∷ []) ≡ all_lines domains splits ms rs ++ lines_text domains m splits r.lines.items
  lines_more [] [] m r are = append-nil (lines_text domains m splits r.lines.items)
  lines_more [] (s ∷ rs) m r are = absurd are
  lines_more (n ∷ ms) [] m r are = absurd are
  lines_more (n ∷ ms) (s ∷ rs) m r are =
      ap (λ (t : List ℕ). lines_text domains n splits s.lines.items ++ t) (lines_more ms rs m r are.1)
      ∙ sym (append_assoc (lines_text domains n splits s.lines.items) (all_lines domains splits ms rs) (lines_text domains m splits r.lines.items))

  -- the report of these messages, without its last line
  pub record IsToldOf (ms : List Graph) (r : Reported) : Type 0 where
    pub reports : List Report
    pub are : AreReports domains splits ms reports
    pub counts : counts_in r ≡ all_counted reports none_counted
    pub text : r.text.items ≡ all_lines domains splits ms reports

  pub told_none : (r : Reported) → counts_in r ≡ none_counted → r.text.items ≡ [] → IsToldOf [] r
  told_none r counts text = record { reports = []; are = tt; counts = counts; text = text }

  pub told_more : (ms : List Graph) (m : Graph) (before after : Reported) → IsToldOf ms before → Adds domains splits m before after → IsToldOf (ms ++ m ∷ []) after
  told_more ms m before after told adds = record {
    reports = told.reports ++ adds.report ∷ [];
    are = are_more ms told.reports m adds.report told.are adds.is;
    counts = adds.counts ∙ ap (counted adds.report.lines.items) told.counts ∙ sym (all_counted_more told.reports adds.report none_counted);
    text =
        adds.text
        ∙ ap (λ (t : List ℕ). t ++ lines_text domains m splits adds.report.lines.items) told.text
        ∙ sym (lines_more ms told.reports m adds.report told.are);
  }

  pub told_next : (b : Bool) (ms : List Graph) (m : Graph) (before after : Reported) → IsToldOf ms before → AddsIf domains splits b m before after → IsToldOf (ms ++ cond b (m ∷ []) []) after
  told_next true ms m before after told adds = told_more ms m before after told adds
  told_next false ms m before after told same = subst (λ ns. IsToldOf ns after) (sym (append-nil ms)) (subst (λ r. IsToldOf ms r) (sym same) told)

  pub told_whole : (ms : List Graph) (before after : Reported) → IsToldOf ms before → counts_in after ≡ counts_in before → after.text.items ≡ before.text.items ++ closing_text (counts_in before) → IsReported domains splits ms after
  told_whole ms before after told counts text = record {
    reports = told.reports;
    are = told.are;
    counts = counts ∙ told.counts;
    text =
        text
        ∙ ap (λ (t : List ℕ). t ++ closing_text (counts_in before)) told.text
        ∙ ap (λ (c : Counts). all_lines domains splits ms told.reports ++ closing_text c) (sym counts);
  }

-- ---- the messages of a package

filter_last : (p : Graph → Bool) (ms : List Graph) (m : Graph) → filter p (ms ++ m ∷ []) ≡ filter p ms ++ cond (p m) (m ∷ []) []
filter_last p [] m = elim (p m) as (λ b. cond b (m ∷ []) [] ≡ cond b (m ∷ []) []) [ true ↦ refl | false ↦ refl ]
filter_last p (n ∷ ms) m = elim (p n) as (λ b. cond b (n ∷ filter p (ms ++ m ∷ [])) (filter p (ms ++ m ∷ [])) ≡ cond b (n ∷ filter p ms) (filter p ms) ++ cond (p m) (m ∷ []) []) [
  | true ↦ ap (λ (t : List Graph). n ∷ t) (filter_last p ms m)
  | false ↦ filter_last p ms m
]

-- one message more
take_next : (ms : List Graph) (i : ℕ) (m : Graph) → slice_get ms i ≡ Some m → take (suc i) ms ≡ take i ms ++ m ∷ []
take_next [] i m is = absurd (cc)
take_next (n ∷ ms) zero m is = cc
take_next (n ∷ ms) (suc i) m is = ap (λ (t : List Graph). n ∷ t) (take_next ms i m is)

pub messages_next : (name : List ℕ) (ms : List Graph) (i : ℕ) (m : Graph) → slice_get ms i ≡ Some m → messages_of name (take i ms) ++ cond (str_eq_ignore_ascii_case m.«package» name) (m ∷ []) [] ≡ messages_of name (take (i + 1) ms)
messages_next name ms i m is =
    let one : i + 1 ≡ suc i = omega arith in
    sym
    (ap (λ (k : ℕ). messages_of name (take k ms)) one
    ∙ ap (messages_of name) (take_next ms i m is)
    ∙ filter_last (λ n. str_eq_ignore_ascii_case n.«package» name) (take i ms) m)

pub messages_all : (name : List ℕ) (ms : List Graph) (i : ℕ) → length ms ≤ i → messages_of name (take i ms) ≡ messages_of name ms
messages_all name ms i end = ap (messages_of name) (take_all i ms end)

-- there is a message at each place below their number
pub message_there : (ms : List Graph) (i : ℕ) → i < length ms → (m : Graph) × (slice_get ms i ≡ Some m)
message_there [] i within = absurd (omega arith)
message_there (m ∷ ms) zero within = (m, refl)
message_there (m ∷ ms) (suc i) within = let less : i < length ms = omega arith in message_there ms i less

-- the message that stands at a place, as a value with its scalar types
pub one_there : (domains : List Domain) (o : Option Graph) (t : Typed) (m : Graph) → Some t ≡ option_map (typed domains) o → o ≡ Some m → t ≡ typed domains m
one_there domains None t m found is = absurd (cc)
one_there domains (Some n) t m found is = cc

pub none_there : (domains : List Domain) (o : Option Graph) (m : Graph) → None ≡ option_map (typed domains) o → o ≡ Some m → ⊥
none_there domains None m found is = absurd (cc)
none_there domains (Some n) m found is = absurd (cc)
