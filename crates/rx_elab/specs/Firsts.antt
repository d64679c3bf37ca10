-- The First of a field or a link: its two forms, and the fields over which the links to a field lay it.
--   has_first_form s owner e   `X'First`, or `X'Last + K` with a static number K from 1 on
--   laid s e                   the field over which a First lays its target: X of `X'First`
--   unlaid s e                 Y of a First `Y'First` where Y is no field, as it is written
--   way_first m w              the First of a link: that of its clause, or else that of its target
--   layings_of s m ways        where each link leads, and over which field it lays its target, or over what else
--   is_mixed ls i x            some link to field i does not lay it over x
--   is_mixed_name ls i w       some link to field i has no First over this name
--   overlay_in ls i            the field over which all links to field i lay it, if there is one
use Rattle.std.specs.Prelude.{ℕ, ◌==◌, Bool, true, false, not, ◌&&◌, List, [], ◌∷◌, map, find, Option, Some, None, Ok, Err, slice_get, pos, int_le, if◌then◌else◌}
use Rattle.std.specs.List.{list_any}
use Rattle.std.specs.Option.{option_or}
use Rattle.rx_syntax.specs.declared.tree.Named.{Named}
use Rattle.rx_syntax.specs.declared.tree.NameTree.{NameTree}
use Rattle.rx_syntax.specs.declared.tree.Attr.TheVariants as attr
use Rattle.rx_syntax.specs.declared.tree.Operator.TheVariants as token
use Rattle.rx_syntax.specs.declared.tree.ExprTree.{ExprTree}
use Rattle.rx_syntax.specs.declared.tree.ExprTree.TheVariants as tree
use Rattle.rx_syntax.specs.declared.tree.AspectTree.{AspectTree}
use Rattle.rx_syntax.specs.declared.tree.AspectTree.TheVariants as aspect
use Rattle.rx_syntax.specs.declared.tree.ThenTree.{ThenTree}
use Rattle.rx_syntax.specs.declared.tree.FieldTree.{FieldTree}
use Rattle.rx_syntax.specs.declared.tree.MessageTree.{MessageTree}
use Rattle.rx_judge.specs.Meaning.{Meaning, ◌>>=◌}
use Rattle.rx_judge.specs.Names.{Scope, Within, same, thing_of}
use Rattle.rx_judge.specs.Judged.{Typed, judged, is_message}
use Rattle.rx_judge.specs.declared.names.Thing.{Thing}
use Rattle.rx_judge.specs.declared.names.Thing.TheVariants as thing
use Rattle.rx_links.specs.Cycle.{clauses_of, clause_of}
use Rattle.rx_links.specs.declared.links.Stop.{Stop}
use Rattle.rx_links.specs.declared.links.Stop.TheVariants as stop
use Rattle.rx_links.specs.declared.links.Way.{Way}
use Rattle.rx_elab.specs.declared.firsts.Written.{Written}
use Rattle.rx_elab.specs.declared.layings.Laying.{Laying}

-- ---- forms

abbrev pub field_of_thing : Thing → Option ℕ
field_of_thing (thing.Field f) = Some f.id
field_of_thing x = None

-- the field that a name stands for, if it is one; refused where the name stands for nothing
abbrev pub field_of_name : Scope → NameTree → Meaning (Option ℕ)
field_of_name s n = if is_message n then Ok None else (thing_of s n >>= (λ x. Ok (field_of_thing x)))

-- numbers and operators only
abbrev pub is_of_numbers : ExprTree → Bool
is_of_numbers (tree.Number z p) = true
is_of_numbers (tree.Neg' p q e) = is_of_numbers e
is_of_numbers (tree.Not' p q e) = is_of_numbers e
is_of_numbers (tree.Binary' o p q a s b) = is_of_numbers a && is_of_numbers b
is_of_numbers e = false

-- a static number from 1 on; what is refused for itself is no other form
abbrev pub is_step_by : Meaning Typed → Bool
is_step_by (Ok x) = x.about.is_static && int_le (pos 1) x.about.interval.low
is_step_by (Err r) = true

abbrev pub is_step : Scope → List ℕ → ExprTree → Bool
is_step s owner k = is_of_numbers k && is_step_by (judged (Within s) owner k)

-- The name stands for a field, behind which comes a step. Of a name that stands for nothing no form is judged.
abbrev pub is_form : Bool → Meaning (Option ℕ) → Bool
is_form step (Ok (Some f)) = step
is_form step (Ok None) = false
is_form step (Err r) = true

-- X of `X'Last`
abbrev pub name_of_last : ExprTree → Option NameTree
name_of_last (tree.Attribute n attr.Last) = Some n
name_of_last e = None

abbrev pub is_behind : Scope → List ℕ → Option NameTree → ExprTree → Bool
is_behind s owner None k = false
is_behind s owner (Some n) k = is_form (is_step s owner k) (field_of_name s n)

-- `X'First`, or `X'Last + K`
abbrev pub has_first_form : Scope → List ℕ → ExprTree → Bool
has_first_form s owner (tree.Attribute n attr.First) = is_form true (field_of_name s n)
has_first_form s owner (tree.Binary' token.Add p q a t k) = is_behind s owner (name_of_last a) k
has_first_form s owner e = false

-- ---- overlays

abbrev pub field_if_any : Meaning (Option ℕ) → Option ℕ
field_if_any (Ok o) = o
field_if_any (Err r) = None

-- the field over which a First lays its target
abbrev pub laid : Scope → ExprTree → Option ℕ
laid s (tree.Attribute n attr.First) = field_if_any (field_of_name s n)
laid s e = None

abbrev pub laid_if_any : Scope → Option ExprTree → Option ℕ
laid_if_any s None = None
laid_if_any s (Some e) = laid s e

-- ---- names that stand for no field

abbrev pub package_written : Option Named → Option (List ℕ)
package_written None = None
package_written (Some q) = Some q.word

-- a name as it is written
abbrev pub name_written : NameTree → Written
name_written n = record { «package» = package_written n.«package»; name = n.name.word }

abbrev pub written_unless : NameTree → Option ℕ → Option Written
written_unless n None = Some (name_written n)
written_unless n (Some f) = None

-- Y of a First `Y'First` where Y is no field, as it is written
abbrev pub unlaid : Scope → ExprTree → Option Written
unlaid s (tree.Attribute n attr.First) = written_unless n (field_if_any (field_of_name s n))
unlaid s e = None

abbrev pub unlaid_if_any : Scope → Option ExprTree → Option Written
unlaid_if_any s None = None
unlaid_if_any s (Some e) = unlaid s e

abbrev pub same_package : Option (List ℕ) → Option (List ℕ) → Bool
same_package None None = true
same_package None (Some q) = false
same_package (Some p) None = false
same_package (Some p) (Some q) = same p q

-- the same name but for ASCII case
abbrev pub is_written : Written → Written → Bool
is_written w v = same_package w.«package» v.«package» && same w.name v.name

abbrev pub is_written_so : Written → Option Written → Bool
is_written_so w None = false
is_written_so w (Some v) = is_written w v

-- ---- links

-- the First among aspects; a second one of a list is refused before
abbrev pub first_from : Option ExprTree → List AspectTree → Option ExprTree
first_from o [] = o
first_from o (aspect.First p e ∷ xs) = first_from (Some e) xs
first_from o (aspect.Size p e ∷ xs) = first_from o xs

abbrev pub first_in : List AspectTree → Option ExprTree
first_in xs = first_from None xs

abbrev pub clause_first : Option ThenTree → Option ExprTree
clause_first None = None
clause_first (Some t) = first_in t.aspects.items

abbrev pub field_first : Option FieldTree → Option ExprTree
field_first None = None
field_first (Some f) = first_in f.aspects.items

abbrev pub target_first : List FieldTree → Stop → Option ExprTree
target_first fields (stop.At i) = field_first (slice_get fields i)
target_first fields s = None

-- the First of a link: that of its clause, or else that of its target
abbrev pub way_first : MessageTree → Way → Option ExprTree
way_first m w = option_or (clause_first (clause_of (clauses_of m.start.items m.fields.items w.source) w.clause)) (target_first m.fields.items w.target)

-- where a link leads, and over which field it lays its target, or over what else
abbrev pub laying_of : Scope → MessageTree → Way → Laying
laying_of s m w = record { target = w.target; over = laid_if_any s (way_first m w); beside = unlaid_if_any s (way_first m w) }

abbrev pub layings_of : Scope → MessageTree → List Way → List Laying
layings_of s m ways = map (laying_of s m) ways

abbrev pub is_at : ℕ → Stop → Bool
is_at i (stop.At j) = i == j
is_at i s = false

abbrev pub is_over : ℕ → Option ℕ → Bool
is_over x None = false
is_over x (Some y) = x == y

-- the link leads to field i, and does not lay it over x
abbrev pub lays_otherwise : ℕ → ℕ → Laying → Bool
lays_otherwise i x l = is_at i l.target && not (is_over x l.over)

abbrev pub is_mixed : List Laying → ℕ → ℕ → Bool
is_mixed ls i x = list_any (lays_otherwise i x) ls

-- the link leads to field i, and has no First over this name
abbrev pub writes_otherwise : ℕ → Written → Laying → Bool
writes_otherwise i w l = is_at i l.target && not (is_written_so w l.beside)

abbrev pub is_mixed_name : List Laying → ℕ → Written → Bool
is_mixed_name ls i w = list_any (writes_otherwise i w) ls

abbrev pub unless_mixed : List Laying → ℕ → Option ℕ → Option ℕ
unless_mixed ls i None = None
unless_mixed ls i (Some x) = if is_mixed ls i x then None else Some x

abbrev pub overlay_by : List Laying → ℕ → Option Laying → Option ℕ
overlay_by ls i None = None
overlay_by ls i (Some l) = unless_mixed ls i l.over

-- the field over which all links to field i lay it; there is one link at least
abbrev pub overlay_in : List Laying → ℕ → Option ℕ
overlay_in ls i = overlay_by ls i (find (λ l. is_at i l.target) ls)
