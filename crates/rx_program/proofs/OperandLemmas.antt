-- The message that is asked for, item by item of lists.
use Rattle.std.proofs.Common.{◌≡◌, ℕ, zero, suc, ◌+◌, ◌≤◌, add-one, arith, Bool, true, false, List, [], ◌∷◌, length, map, drop, refl, sym, ap, ◌∙◌, subst, Option, None, Some, option_map, if◌then◌else◌}
use Rattle.std.specs.List.{AllByRecursion}
use Rattle.std.specs.Prelude.{slice_get}
use Rattle.rx_types.specs.Domain.{Domain, domain_of, boolean}
use Rattle.rx_graph.specs.declared.spec.Scalar as code
use Rattle.rx_graph.specs.declared.spec.Spec.{Spec}
use Rattle.rx_graph.specs.Graph.{Graph, graph_of, spec_of, named_domain_of, domains_of}
use Rattle.rx_graph.specs.Typed.{Typed, typed}
use Rattle.rx_forms.specs.PathLimit.{MayBeChecked}
use Rattle.rx_forms.specs.Checkable.{AllCheckable, messages_of}
use Rattle.rx_spec.specs.Laws.{IsSoundSpec, domains_in}
use Rattle.rx_program.specs.Operand.{is_of, message_in}

-- the first i messages are others
pub record OthersSofar (name message : List ℕ) (ms : List Graph) (i : ℕ) : Type 0 where
  pub rest : message_in name message ms ≡ message_in name message (drop i ms)

message_at : (name message : List ℕ) (ms : List Graph) (i : ℕ) (m : Graph) → slice_get ms i ≡ Some m → message_in name message (drop i ms) ≡ (if is_of name message m then Some m else message_in name message (drop (suc i) ms))
message_at name message [] i m is = absurd (let no : None ≡ Some m = is in cc)
message_at name message (x ∷ ms) zero m is = (let same : x ≡ m = cc in rw same refl)
message_at name message (x ∷ ms) (suc i) m is = message_at name message ms i m is

none_at : (name message : List ℕ) (ms : List Graph) (i : ℕ) → slice_get ms i ≡ None → message_in name message (drop i ms) ≡ message_in name message (drop (suc i) ms)
none_at name message [] zero is = refl
none_at name message [] (suc i) is = refl
none_at name message (x ∷ ms) zero is = absurd (let no : Some x ≡ None = is in cc)
none_at name message (x ∷ ms) (suc i) is = none_at name message ms i is

next : (name message : List ℕ) (ms : List Graph) (i : ℕ) → message_in name message (drop (suc i) ms) ≡ message_in name message (drop (i + 1) ms)
next name message ms i = ap (λ (k : ℕ). message_in name message (drop k ms)) (sym (add-one i))

-- a message that is another one
pub other_more : (name message : List ℕ) (ms : List Graph) (i : ℕ) (m : Graph) → OthersSofar name message ms i → slice_get ms i ≡ Some m → is_of name message m ≡ false → OthersSofar name message ms (i + 1)
other_more name message ms i m s at other =
    let rest : (if is_of name message m then Some m else message_in name message (drop (suc i) ms)) ≡ message_in name message (drop (suc i) ms) = rw other refl in
    record { rest = s.rest ∙ message_at name message ms i m at ∙ rest ∙ next name message ms i }

-- no message there
pub none_more : (name message : List ℕ) (ms : List Graph) (i : ℕ) → OthersSofar name message ms i → slice_get ms i ≡ None → OthersSofar name message ms (i + 1)
none_more name message ms i s at = record { rest = s.rest ∙ none_at name message ms i at ∙ next name message ms i }

-- the message itself
pub message_first : (name message : List ℕ) (ms : List Graph) (i : ℕ) (m : Graph) → OthersSofar name message ms i → slice_get ms i ≡ Some m → is_of name message m ≡ true → message_in name message ms ≡ Some m
message_first name message ms i m s at this =
    let first : (if is_of name message m then Some m else message_in name message (drop (suc i) ms)) ≡ Some m = rw this refl in
    s.rest ∙ message_at name message ms i m at ∙ first

nothing_past : (name message : List ℕ) (ms : List Graph) (i : ℕ) → length ms ≤ i → message_in name message (drop i ms) ≡ None
nothing_past name message [] zero past = refl
nothing_past name message [] (suc i) past = refl
nothing_past name message (x ∷ ms) zero past = absurd (omega arith)
nothing_past name message (x ∷ ms) (suc i) past = (let less : length ms ≤ i = omega arith in nothing_past name message ms i less)

-- no message
pub no_message : (name message : List ℕ) (ms : List Graph) (i : ℕ) → OthersSofar name message ms i → length ms ≤ i → message_in name message ms ≡ None
no_message name message ms i s past = s.rest ∙ nothing_past name message ms i past

-- ---- what is made of a message that is there

-- the message that is found at a place
pub there : (domains : List Domain) (o : Option Graph) (t : Typed) → Some t ≡ option_map (typed domains) o → o ≡ Some t.graph
there domains None t is = absurd (let no : Some t ≡ None = is in cc)
there domains (Some m) t is = (let same : t ≡ typed domains m = cc in ap (λ (u : Typed). Some u.graph) (sym same))

pub typed_by : (domains : List Domain) (o : Option Graph) (t : Typed) → Some t ≡ option_map (typed domains) o → t.domains ≡ domains
typed_by domains None t is = absurd (let no : Some t ≡ None = is in cc)
typed_by domains (Some m) t is = (let same : t ≡ typed domains m = cc in ap (λ (u : Typed). u.domains) same)

-- the message is that of the place, with the scalar types of all
pub made_of : (domains : List Domain) (o : Option Graph) (t : Typed) → Some t ≡ option_map (typed domains) o → t ≡ typed domains t.graph
made_of domains o t is = ap (λ (ds : List Domain). typed ds t.graph) (typed_by domains o t is)

pub nothing_there : (domains : List Domain) (o : Option Graph) → None ≡ option_map (typed domains) o → o ≡ None
nothing_there domains None is = refl
nothing_there domains (Some m) is = absurd (let no : None ≡ Some (typed domains m) = is in cc)

-- what holds of all messages holds of the one that is found
pub found_has : (P : Graph → Type 0) (name message : List ℕ) (ms : List Graph) (m : Graph) → AllByRecursion P ms → message_in name message ms ≡ Some m → P m
found_has P name message [] m all is = absurd (let no : None ≡ Some m = is in cc)
found_has P name message (x ∷ ms) m all is = by_test (is_of name message x) (λ there. found_has P name message ms m all.1 there) is
  where
    by_test : (b : Bool) → (message_in name message ms ≡ Some m → P m) → (if b then Some x else message_in name message ms) ≡ Some m → P m
    by_test true rest here = (let same : x ≡ m = cc in subst P same all.0)
    by_test false rest there = rest there

-- what holds of all messages holds of the one at a place
at_all : (P : Graph → Type 0) (ms : List Graph) (i : ℕ) (m : Graph) → AllByRecursion P ms → slice_get ms i ≡ Some m → P m
at_all P [] i m all is = absurd (let no : None ≡ Some m = is in cc)
at_all P (x ∷ ms) zero m all is = (let same : x ≡ m = cc in subst P same all.0)
at_all P (x ∷ ms) (suc i) m all is = at_all P ms i m all.1 is

-- ---- types

domains_same_in : (xs : List code.Scalar) → map (λ x. x.domain) (map named_domain_of xs) ≡ map (λ x. domain_of x.kind) xs
domains_same_in [] = refl
domains_same_in (x ∷ xs) = ap (λ l. domain_of x.kind ∷ l) (domains_same_in xs)

-- the types of a specification, of its code and of its meaning
pub domains_same : (s : Spec) → domains_in (spec_of s) ≡ domains_of s
domains_same s = domains_same_in s.scalars.items

-- the first type is that one
pub first_same : (ds : List Domain) → slice_get ds 0 ≡ Some boolean → (d : Domain) → slice_get ds 0 ≡ Some d → d ≡ boolean
first_same ds first d is = (let same : Some d ≡ Some boolean = sym is ∙ first in cc)

-- each message of a specification that elaboration gives can be checked
pub all_checkable : (s : Spec) → IsSoundSpec (spec_of s) → AllCheckable (messages_of s)
all_checkable s sound i m at =
    let first = first_same (domains_of s) (subst (λ (ds : List Domain). slice_get ds 0 ≡ Some boolean) (domains_same s) sound.boolean) in
    let all = subst (λ (ds : List Domain). AllByRecursion (MayBeChecked ds) (map graph_of s.messages.items)) (domains_same s) sound.messages in
    let may = at_all (MayBeChecked (domains_of s)) (map graph_of s.messages.items) i m all at in
    record { known = record { elaborated = may.elaborated; boolean = first }; limit = may.limit }
