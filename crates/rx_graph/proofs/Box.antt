-- The definitions at one message: a kind that has to be On, a length, so many bytes of data, and the rest.
--   type Kind is (Off, On) with Size => 8;  type Len is unsigned 8;
--   type M is message Kind : Kind if Kind = On; Len : Len; Data : Opaque with Size => Len * 8; Rest : Opaque; end message;
use Rattle.std.proofs.Common.{get_or, ◌+◌, ◌≡◌, ℕ, zero, suc, ◌<◌, Bool, true, false, List, [], ◌∷◌, length, Option, Some, None, map, ◌∙◌, refl, sym, ap, subst, inl, inr, lit<, lit≤, arith}
use Rattle.std.specs.Prelude.{ℤ, pos, ◌*ℤ◌, ◌==◌, if◌then◌else◌, codes, slice_get}
use Rattle.std.proofs.lemmas.Int.{ints}
use Rattle.rx_syntax.specs.declared.token.Place.{Place}
use Rattle.rx_types.specs.declared.expr.Operator.TheVariants as op
use Rattle.rx_types.specs.declared.scalar.Literal.{Literal}
use Rattle.rx_types.specs.declared.scalar.FieldType.TheVariants as holds
use Rattle.rx_types.specs.declared.kind.Kind.TheVariants as kind
use Rattle.rx_types.specs.declared.stuck.Reason.TheVariants.{Value}
use Rattle.rx_types.specs.Coefficients.{Unknown, NumberOf, FirstOf, LastOf, SizeOf, Bits, IsLow, coefficient_of}
use Rattle.rx_types.specs.Domain.{Domain, Integer, Enumeration, AreLiterals, boolean}
use Rattle.rx_types.specs.Names.{IsSameName}
use Rattle.std.specs.Char.{to_ascii_lowercase}
use Rattle.rx_types.specs.Environment.{Placed, in_message}
use Rattle.rx_types.specs.Tree.{Tree, Number, Truth, Field, Binary}
use Rattle.rx_types.proofs.Short.{short_facts}
use Rattle.rx_graph.specs.declared.message.Node.{Node}
use Rattle.rx_graph.specs.declared.message.Node.TheVariants.{Start, At, Null}
use Rattle.rx_graph.specs.declared.message.Field as field
use Rattle.rx_graph.specs.Graph.{Arrow, Graph}
use Rattle.rx_graph.specs.Cycles.{IsLink, HasNoCycle, HasPathsUpTo}
use Rattle.rx_graph.specs.Paths.{Places}
use Rattle.rx_graph.specs.Stuck.{IsReason}
use Rattle.rx_graph.specs.Fits.{Reads, by_buffer}
use Rattle.rx_graph.specs.Elaborated.{GoesOn, OnlyEnds, IsExpression, IsPlacing, IsElaboratedField, IsElaboratedLink, IsElaborated}
use Rattle.rx_graph.specs.Onward.{onward}
use Rattle.rx_graph.proofs.Listed.{listed}
use Rattle.rx_graph.proofs.Ranks.{no_cycle}

abbrev off : Literal
off = record { name = codes "Off"; number = 0 }

abbrev on : Literal
on = record { name = codes "On"; number = 1 }

abbrev pub domains : List Domain
domains = boolean ∷ Enumeration (off ∷ on ∷ []) 8 false ∷ Integer 0 255 8 ∷ []

abbrev no_place : Place
no_place = record { line = 1; column = 1 }

abbrev to : Node → Node → Tree → Option Tree → Arrow
to source target condition size = record { source = source; target = target; condition = condition; first = None; size = size; place = no_place }

abbrev data_size : Tree
data_size = Binary op.Mul (Field 1) (Number (pos 8))

abbrev is_on : Tree
is_on = Binary op.Equal (Field 0) (Number (pos 1))

abbrev kind_field : field.Field
kind_field = record { name = codes "Kind"; kind = holds.Scalar 1; overlay = None }

abbrev len_field : field.Field
len_field = record { name = codes "Len"; kind = holds.Scalar 2; overlay = None }

abbrev data_field : field.Field
data_field = record { name = codes "Data"; kind = holds.Opaque; overlay = None }

abbrev rest_field : field.Field
rest_field = record { name = codes "Rest"; kind = holds.Opaque; overlay = None }

abbrev pub box : Graph
box = record {
  «package» = codes "Box";
  name = codes "M";
  fields = kind_field ∷ len_field ∷ data_field ∷ rest_field ∷ [];
  links = to Start (At 0) (Truth true) None ∷ to (At 0) (At 1) is_on None ∷ to (At 1) (At 2) (Truth true) (Some data_size) ∷ to (At 2) (At 3) (Truth true) None ∷ to (At 3) Null (Truth true) None ∷ [];
  low_order = false;
}

abbrev at_bits : ℕ → ℤ → ℤ → ℕ → Placed
at_bits f first size number = record { field = f; first = first; size = size; number = number }

-- ---- what its buffers read as

abbrev kind_on : Placed
kind_on = at_bits 0 (pos 0) (pos 8) 1

abbrev len_two : Placed
len_two = at_bits 1 (pos 8) (pos 8) 2

abbrev data_two : Placed
data_two = at_bits 2 (pos 16) (pos 16) 0

abbrev rest_one : Placed
rest_one = at_bits 3 (pos 32) (pos 8) 0

none_some : {X : Type 0} (x : X) → None ≡ Some x → ⊥
none_some x h = cc

kind_placed : (total : ℕ) → 0 < total → Places domains box (to Start (At 0) (Truth true) None) (in_message total []) kind_on
kind_placed total h =
    record {
      target = refl;
      taken = refl;
      place = refl;
      within = record { begins = omega (arith, ints); long = omega (arith, ints); ends = omega (arith, ints, h) };
      number = (on, (1, lit< tt, refl), refl);
      agrees = λ x s t over. absurd (none_some x over);
    }

len_placed : Places domains box (to (At 0) (At 1) is_on None) (in_message 5 (kind_on ∷ [])) len_two
len_placed =
    record {
      target = refl;
      taken = refl;
      place = refl;
      within = record { begins = omega (arith, ints); long = omega (arith, ints); ends = omega (arith, ints) };
      number = (lit≤ tt, lit≤ tt);
      agrees = λ x s t over. absurd (none_some x over);
    }

data_placed : Places domains box (to (At 1) (At 2) (Truth true) (Some data_size)) (in_message 5 (kind_on ∷ len_two ∷ [])) data_two
data_placed =
    record {
      target = refl;
      taken = refl;
      place = refl;
      within = record { begins = omega (arith, ints); long = omega (arith, ints); ends = omega (arith, ints) };
      number = refl;
      agrees = λ x s t over. absurd (none_some x over);
    }

rest_placed : Places domains box (to (At 2) (At 3) (Truth true) None) (in_message 5 (kind_on ∷ len_two ∷ data_two ∷ [])) rest_one
rest_placed =
    record {
      target = refl;
      taken = refl;
      place = refl;
      within = record { begins = omega (arith, ints); long = omega (arith, ints); ends = omega (arith, ints) };
      number = refl;
      agrees = λ x s t over. absurd (none_some x over);
    }

-- 01 02 0a 0b 0c: the kind is On, the length 2, the data 0a 0b and the rest 0c
pub reads_five_bytes : Reads domains box (1 ∷ 2 ∷ 10 ∷ 11 ∷ 12 ∷ []) (kind_on ∷ len_two ∷ data_two ∷ rest_one ∷ [])
reads_five_bytes = (
  0 ∷ 1 ∷ 2 ∷ 3 ∷ 4 ∷ [],
  record {
    front = 0 ∷ 1 ∷ 2 ∷ 3 ∷ [];
    last = 4;
    node = At 3;
    is = refl;
    partial = record {
      short = lit< tt;
      leads = (to Start (At 0) (Truth true) None, refl, refl, kind_placed 5 (lit< tt), (to (At 0) (At 1) is_on None, refl, refl, len_placed, (to (At 1) (At 2) (Truth true) (Some data_size), refl, refl, data_placed, (to (At 2) (At 3) (Truth true) None, refl, refl, rest_placed, refl))));
    };
    ends = record { link = to (At 3) Null (Truth true) None; is = refl; source = refl; target = refl; taken = refl };
    exact = refl;
  },
  ((λ t is. refl), ((λ t is. refl), ((λ t is. absurd (none_some t is)), ((λ t is. absurd (none_some t is)), tt)))),
)

-- 02: the number of the kind is none of its type
pub two_is_no_kind : IsReason domains box (by_buffer false (2 ∷ [])) (in_message 1 []) Start Value (Some 0)
two_is_no_kind = (
  0,
  to Start (At 0) (Truth true) None,
  refl,
  record { index = 0; is = refl; source = refl; target = refl; taken = refl },
  record { begins = omega (arith, ints); long = omega (arith, ints); ends = omega (arith, ints) },
  Enumeration (off ∷ on ∷ []) 8 false,
  refl,
  λ h. not_two h.0 h.1.0 h.1.1 h.1.2 h.2,
)
  where
    not_two : (l : Literal) (k : ℕ) → k < 2 → get_or (off ∷ on ∷ []) k l ≡ l → l.number ≡ 2 → ⊥
    not_two l zero h e two = let n = ap (λ (x : Literal). x.number) e in absurd (omega (arith, n, two))
    not_two l (suc zero) h e two = let n = ap (λ (x : Literal). x.number) e in absurd (omega (arith, n, two))
    not_two l (suc (suc k)) h e two = absurd (omega (arith, h))

-- ---- it is elaborated

abbrev rank : Node → ℕ
rank Start = 0
rank (At f) = f + 1
rank Null = 5

acyclic : HasNoCycle box
acyclic = no_cycle box rank (lit< tt, (lit< tt, (lit< tt, (lit< tt, (lit< tt, tt)))))

one_path : HasPathsUpTo box Null 4096
unfolding onward
one_path = (onward box.links 5 Null Start, listed box Null acyclic, lit≤ tt)

low_number : (b : Bool) → IsLow ((if b then pos 1 else pos 0) *ℤ pos 8)
low_number true = record { above = omega (arith, ints); below = omega (arith, ints) }
low_number false = record { above = omega (arith, ints); below = omega (arith, ints) }

low_leaf : (u : Unknown) → IsLow (coefficient_of u data_size)
low_leaf (NumberOf f) = low_number (f == 1)
low_leaf (FirstOf f) = low_number false
low_leaf (LastOf f) = low_number false
low_leaf (SizeOf f) = low_number false
low_leaf Bits = low_number false

true_expression : IsExpression domains box kind.Truth (Truth true)
true_expression = record { names = tt; typed = refl; linear = tt; narrow = short_facts _ refl; low = tt }

not_truth : (id : ℕ) → kind.Of id ≡ kind.Truth → ⊥
not_truth id h = cc

number_not_truth : kind.Number ≡ kind.Truth → ⊥
number_not_truth h = cc

on_expression : IsExpression domains box kind.Truth is_on
on_expression =
    record {
      names = (lit< tt, tt);
      typed = (refl, (kind.Of 1, tt, refl, not_truth 1));
      linear = (tt, tt, tt);
      narrow = (short_facts _ refl, tt, short_facts _ refl, short_facts _ refl);
      low = (record { leaves = λ u. low_number false; quotients = tt }, tt, tt);
    }

size_expression : IsExpression domains box kind.Number data_size
size_expression =
    record {
      names = (lit< tt, tt);
      typed = (refl, (kind.Number, refl, refl, number_not_truth));
      linear = (refl, tt, tt);
      narrow = (short_facts _ refl, tt, short_facts _ refl, short_facts _ refl);
      low = (record { leaves = low_leaf; quotients = tt }, tt, tt);
    }

at_field : (f g : ℕ) → At f ≡ At g → f ≡ g
at_field f g h = cc

no_field : (f : ℕ) → Null ≡ At f → ⊥
no_field f h = cc

some_size : (x : Tree) → Some x ≡ None → ⊥
some_size x h = cc

same_arrow : (a b : Arrow) → Some a ≡ Some b → a ≡ b
same_arrow a b h = cc

elsewhere : (a b : Arrow) (f : ℕ) → Some a ≡ Some b → b.source ≡ At f → a.source ≡ At f
elsewhere a b f h s = ap (λ (x : Arrow). x.source) (same_arrow a b h) ∙ s

differ_by : (f g : ℕ) → (f ≡ g → ⊥) → At f ≡ At g → ⊥
differ_by f g h e = h (at_field f g e)

start_not : (f : ℕ) → Start ≡ At f → ⊥
start_not f h = cc

-- the only link from the rest is the last one
from_rest : (i : ℕ) (a : Arrow) → IsLink box i a → a.source ≡ At 3 → i ≡ 4
from_rest zero a is s = absurd (start_not 3 (elsewhere (to Start (At 0) (Truth true) None) a 3 is s))
from_rest (suc zero) a is s = absurd (differ_by 0 3 (λ (h : 0 ≡ 3). omega (arith, h)) (elsewhere (to (At 0) (At 1) is_on None) a 3 is s))
from_rest (suc (suc zero)) a is s = absurd (differ_by 1 3 (λ (h : 1 ≡ 3). omega (arith, h)) (elsewhere (to (At 1) (At 2) (Truth true) (Some data_size)) a 3 is s))
from_rest (suc (suc (suc zero))) a is s = absurd (differ_by 2 3 (λ (h : 2 ≡ 3). omega (arith, h)) (elsewhere (to (At 2) (At 3) (Truth true) None) a 3 is s))
from_rest (suc (suc (suc (suc zero)))) a is s = refl
from_rest (suc (suc (suc (suc (suc i))))) a is s = absurd (none_some a is)

rest_ends : OnlyEnds box (At 3)
rest_ends =
    record {
      one = λ i j a b is_a is_b s t. from_rest i a is_a s ∙ sym (from_rest j b is_b t);
      null = λ i a is s. sym (ap (λ (x : Arrow). x.target) (same_arrow (to (At 3) Null (Truth true) None) a (subst (λ k. IsLink box k a) (from_rest i a is s) is)));
    }

links_elaborated : (i : ℕ) (link : Arrow) → IsLink box i link → IsElaboratedLink domains box link
links_elaborated zero link is =
    subst (λ l. IsElaboratedLink domains box l) (same_arrow (to Start (At 0) (Truth true) None) link is) (record {
      source = tt;
      target = lit< tt;
      condition = true_expression;
      few = lit≤ tt;
      first = tt;
      form = tt;
      size = tt;
      placing = λ f h. subst (λ g. IsPlacing domains box (to Start (At 0) (Truth true) None) g) (at_field 0 f h) (record { over = refl; size = refl });
    })
links_elaborated (suc zero) link is =
    subst (λ l. IsElaboratedLink domains box l) (same_arrow (to (At 0) (At 1) is_on None) link is) (record {
      source = lit< tt;
      target = lit< tt;
      condition = on_expression;
      few = lit≤ tt;
      first = tt;
      form = tt;
      size = tt;
      placing = λ f h. subst (λ g. IsPlacing domains box (to (At 0) (At 1) is_on None) g) (at_field 1 f h) (record { over = refl; size = refl });
    })
links_elaborated (suc (suc zero)) link is =
    subst (λ l. IsElaboratedLink domains box l) (same_arrow (to (At 1) (At 2) (Truth true) (Some data_size)) link is) (record {
      source = lit< tt;
      target = lit< tt;
      condition = true_expression;
      few = lit≤ tt;
      first = tt;
      form = tt;
      size = (size_expression, lit≤ tt);
      placing = λ f h. subst (λ g. IsPlacing domains box (to (At 1) (At 2) (Truth true) (Some data_size)) g) (at_field 2 f h) (record { over = refl; size = inl (some_size data_size) });
    })
links_elaborated (suc (suc (suc zero))) link is =
    subst (λ l. IsElaboratedLink domains box l) (same_arrow (to (At 2) (At 3) (Truth true) None) link is) (record {
      source = lit< tt;
      target = lit< tt;
      condition = true_expression;
      few = lit≤ tt;
      first = tt;
      form = tt;
      size = tt;
      placing = λ f h. subst (λ g. IsPlacing domains box (to (At 2) (At 3) (Truth true) None) g) (at_field 3 f h) (record { over = refl; size = inr rest_ends });
    })
links_elaborated (suc (suc (suc (suc zero)))) link is =
    subst (λ l. IsElaboratedLink domains box l) (same_arrow (to (At 3) Null (Truth true) None) link is) (record {
      source = lit< tt;
      target = tt;
      condition = true_expression;
      few = lit≤ tt;
      first = tt;
      form = tt;
      size = tt;
      placing = λ f h. absurd (no_field f h);
    })
links_elaborated (suc (suc (suc (suc (suc i))))) link is = absurd (none_some link is)

high_order : false ≡ true → ⊥
high_order h = cc

letters_differ : IsSameName (codes "Off") (codes "On") → ⊥
letters_differ h = let n = ap length h in absurd (omega (arith, n))

literals_proper : AreLiterals (off ∷ on ∷ []) 8
literals_proper =
    record {
      some = lit< tt;
      below = (lit< tt, (lit< tt, tt));
      differ = ((record { names = letters_differ; numbers = λ (h : 0 ≡ 1). absurd (omega (arith, h)) }, tt), (tt, tt));
    }

same_field : (a b : field.Field) → Some a ≡ Some b → a ≡ b
same_field a b h = cc

fields_elaborated : (f : ℕ) (x : field.Field) → slice_get box.fields f ≡ Some x → IsElaboratedField domains box x
fields_elaborated zero x is =
    subst (λ y. IsElaboratedField domains box y) (same_field kind_field x is) (record { kind = (Enumeration (off ∷ on ∷ []) 8 false, refl, (lit< tt, lit< tt, literals_proper), λ h. absurd (high_order h)); overlay = λ y h. absurd (none_some y h) })
fields_elaborated (suc zero) x is =
    subst (λ y. IsElaboratedField domains box y) (same_field len_field x is) (record { kind = (Integer 0 255 8, refl, (lit< tt, lit< tt, lit≤ tt, lit< tt), λ h. absurd (high_order h)); overlay = λ y h. absurd (none_some y h) })
fields_elaborated (suc (suc zero)) x is =
    subst (λ y. IsElaboratedField domains box y) (same_field data_field x is) (record { kind = tt; overlay = λ y h. absurd (none_some y h) })
fields_elaborated (suc (suc (suc zero))) x is =
    subst (λ y. IsElaboratedField domains box y) (same_field rest_field x is) (record { kind = tt; overlay = λ y h. absurd (none_some y h) })
fields_elaborated (suc (suc (suc (suc f)))) x is = absurd (none_some x is)

first_letters : (a b : List ℕ) → (get_or (map to_ascii_lowercase a) 0 0 ≡ get_or (map to_ascii_lowercase b) 0 0 → ⊥) → IsSameName a b → ⊥
first_letters a b apart h = apart (ap (λ (xs : List ℕ). get_or xs 0 0) h)

goes_on : (f : ℕ) → f < 4 → GoesOn box (At f)
goes_on zero h = (1, to (At 0) (At 1) is_on None, refl, refl)
goes_on (suc zero) h = (2, to (At 1) (At 2) (Truth true) (Some data_size), refl, refl)
goes_on (suc (suc zero)) h = (3, to (At 2) (At 3) (Truth true) None, refl, refl)
goes_on (suc (suc (suc zero))) h = (4, to (At 3) Null (Truth true) None, refl, refl)
goes_on (suc (suc (suc (suc f)))) h = absurd (omega (arith, h))

pub box_elaborated : IsElaborated domains box
box_elaborated =
    record {
      few_fields = lit≤ tt;
      few_links = lit≤ tt;
      few_paths = one_path;
      names = (
        (first_letters (codes "Kind") (codes "Len") (λ (h : 107 ≡ 108). absurd (omega (arith, h))), (first_letters (codes "Kind") (codes "Data") (λ (h : 107 ≡ 100). absurd (omega (arith, h))), (first_letters (codes "Kind") (codes "Rest") (λ (h : 107 ≡ 114). absurd (omega (arith, h))), tt))),
        ((first_letters (codes "Len") (codes "Data") (λ (h : 108 ≡ 100). absurd (omega (arith, h))), (first_letters (codes "Len") (codes "Rest") (λ (h : 108 ≡ 114). absurd (omega (arith, h))), tt)), ((first_letters (codes "Data") (codes "Rest") (λ (h : 100 ≡ 114). absurd (omega (arith, h))), tt), (tt, tt))),
      );
      fields = fields_elaborated;
      links = links_elaborated;
      begins = (0, to Start (At 0) (Truth true) None, refl, refl);
      goes_on = goes_on;
      acyclic = acyclic;
    }
