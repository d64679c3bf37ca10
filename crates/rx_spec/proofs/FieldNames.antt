-- The names of a message's fields are different, since each was new where it stood.
--   field_names_apart     so are those of the fields of the message
use Rattle.std.proofs.Common.{◌≡◌, ◌∙◌, ap, sym, subst, ℕ, ◌+◌, List, [], ◌∷◌, map, Some, Ok}
use Rattle.std.specs.Prelude.{slice_get}
use Rattle.rx_syntax.specs.declared.tree.ThenTree.{ThenTree}
use Rattle.rx_syntax.specs.declared.tree.FieldTree.{FieldTree}
use Rattle.rx_syntax.specs.declared.tree.MessageTree.{MessageTree}
use Rattle.rx_types.specs.Domain.{EachPair}
use Rattle.rx_types.specs.Names.{IsSameName}
use Rattle.rx_graph.specs.declared.message.Field.{Field}
use Rattle.rx_judge.specs.Meaning.{◌>>=◌, each_from}
use Rattle.rx_judge.specs.Scalar.{spelled}
use Rattle.rx_judge.proofs.Meanings.{bind_ok, ok_same}
use Rattle.rx_elab.specs.Stand.{Known, fresh, aspects_stand, claimed, with_aspects, then_stands, field_stands, no_fields, message_stands}
use Rattle.rx_elab.specs.Through.{through}
use Rattle.rx_elab.specs.declared.fields.Held.{Held}
use Rattle.rx_elab.specs.declared.stand.Seen.{Seen}
use Rattle.rx_elab.specs.Firsts.{overlay_in}
use Rattle.rx_elab.specs.declared.layings.Laying.{Laying}
use Rattle.rx_spec.specs.Messages.{type_held, field_meant}
use Rattle.rx_spec.proofs.Apart.{Fresh, none_fresh, more_fresh, is_fresh, pairs_named}
use Rattle.rx_spec.proofs.Proper.{spelled_same}

abbrev field_names : List FieldTree → List (List ℕ)
field_names fs = map (λ f. f.name.word) fs

-- links say nothing of the names of fields
then_keeps : (s s' : Seen) (t : ThenTree) → then_stands s t ≡ Ok s' → s.fields ≡ s'.fields
then_keeps s s' t h =
    let u = bind_ok (aspects_stand s.owned t.target t.aspects.items) (λ (v : Unit {0}). Ok (record s { linked = claimed s.linked t.target t.aspects.items })) s' h in
    ap (λ (x : Seen). x.fields) (ok_same (record s { linked = claimed s.linked t.target t.aspects.items }) s' u.2)

thens_keep : (s s' : Seen) (ts : List ThenTree) → through then_stands s ts ≡ Ok s' → s.fields ≡ s'.fields
thens_keep s s' [] h = ap (λ (x : Seen). x.fields) (ok_same s s' h)
thens_keep s s' (t ∷ ts) h =
    let one = bind_ok (then_stands s t) (λ (x : Seen). through then_stands x ts) s' h in
    then_keeps s one.0 t one.1 ∙ thens_keep one.0 s' ts one.2

abbrev with_field : Seen → FieldTree → Known → Seen
with_field s f known = record { fields = known; owned = with_aspects s.owned f.name.word f.aspects.items; linked = s.linked }

-- a field's name is fresh, and is known behind it
field_fresh : (s s' : Seen) (f : FieldTree) (ws : List (List ℕ)) → field_stands s f ≡ Ok s' → Fresh s'.fields ws → Fresh s.fields (f.name.word ∷ ws)
field_fresh s s' f ws h n =
    let one = bind_ok (fresh s.fields f.name) (λ (known : Known). aspects_stand s.linked (Some f.name.word) f.aspects.items >>= (λ u. through then_stands (with_field s f known) f.thens.items)) s' h in
    let two = bind_ok (aspects_stand s.linked (Some f.name.word) f.aspects.items) (λ (u : Unit {0}). through then_stands (with_field s f one.0) f.thens.items) s' one.2 in
    let kept : one.0 ≡ s'.fields = thens_keep (with_field s f one.0) s' f.thens.items two.2 in
    let new = is_fresh s.fields one.0 f.name one.1 in
    more_fresh s.fields f.name.word ws new.0 (subst (λ (k : Known). Fresh k ws) (sym kept ∙ new.1) n)

fields_fresh : (s s' : Seen) (fs : List FieldTree) → through field_stands s fs ≡ Ok s' → Fresh s.fields (field_names fs)
fields_fresh s s' [] h = none_fresh s.fields
fields_fresh s s' (f ∷ fs) h =
    let one = bind_ok (field_stands s f) (λ (x : Seen). through field_stands x fs) s' h in
    field_fresh s one.0 f (field_names fs) one.1 (fields_fresh one.0 s' fs one.2)

names_along : (held : List Held) (ls : List Laying) (i : ℕ) (fs : List FieldTree) (xs : List Field) → each_from (field_meant held ls) i fs ≡ Ok xs → field_names fs ≡ map (λ (x : Field). x.name) xs
names_along held ls i [] xs h = ap (λ ys. map (λ (x : Field). x.name) ys) (ok_same [] xs h)
names_along held ls i (f ∷ fs) xs h =
    let one = bind_ok (field_meant held ls i f) (λ (y : Field). each_from (field_meant held ls) (i + 1) fs >>= (λ ys. Ok (y ∷ ys))) xs h in
    let rest = bind_ok (each_from (field_meant held ls) (i + 1) fs) (λ (ys : List Field). Ok (one.0 ∷ ys)) xs one.2 in
    let word = bind_ok (spelled f.name) (λ (w : List ℕ). Ok (record { name = w; kind = type_held (slice_get held i); overlay = overlay_in ls i })) one.0 one.1 in
    let name : f.name.word ≡ one.0.name = spelled_same f.name word.0 word.1 ∙ ap (λ (x : Field). x.name) (ok_same _ one.0 word.2) in
    ap (λ w. w ∷ field_names fs) name ∙ ap (λ ws. one.0.name ∷ ws) (names_along held ls (i + 1) fs rest.0 rest.1) ∙ ap (λ ys. map (λ (x : Field). x.name) ys) (ok_same (one.0 ∷ rest.0) xs rest.2)

-- the fields of a message that stands have different names
pub field_names_apart : (m : MessageTree) (s : Seen) (held : List Held) (ls : List Laying) (xs : List Field) → message_stands m ≡ Ok s → each_from (field_meant held ls) 0 m.fields.items ≡ Ok xs → EachPair (λ a b. IsSameName a.name b.name → ⊥) xs
field_names_apart m s held ls xs h e =
    let start = bind_ok (through then_stands no_fields m.start.items) (λ (x : Seen). through field_stands x m.fields.items) s h in
    let fresh = fields_fresh start.0 s m.fields.items start.2 in
    pairs_named (λ (x : Field). x.name) xs (subst (λ ws. EachPair (λ a b. IsSameName a b → ⊥) ws) (names_along held ls 0 m.fields.items xs e) fresh.apart)
