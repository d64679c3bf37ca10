-- What is printed has no float, and a member more.
use Rattle.std.proofs.Common.{◌≡◌, ◌∙◌, ℕ, ◌+◌, ◌<◌, List, [], ◌∷◌, length, get_or, drop, Bool, true, false, Option, Some, None, IfOk, Ok, Err, refl, sym, ap, Ordering, Less, Equal, Greater, nat_cmp, String, Global, string_bytes, string_cmp, cond}
use Rattle.std.specs.Prelude.{Result, ◌||◌, find, ◌==◌}
use Rattle.std.specs.Ordering.{match_ordering}
use Rattle.std.specs.Cmp.Lexicographic.{slice_cmp}
use Rattle.std.specs.BTreeMap.{insert_entry}
use Rattle.std.proofs.lemmas.List.{drop_more}
use Rattle.serde_json.specs.Data.{Data, object, Members, no_members, member, put}
use Rattle.serde_json.specs.View.{view, members_view}
use Rattle.serde_json.specs.Written.{has_float, members_have_float, compact_text}
use Rattle.serde_json.specs.declared.value.Value.{Value as Json}
use Rattle.serde_json.proofs.Views.{members_view-insert_entry}
use Rattle.rx_types.specs.declared.scalar.Literal.{Literal}
use Rattle.rx_types.specs.Domain.{Domain, Integer, Enumeration}
use Rattle.rx_graph.specs.Graph.{Graph, type_of}
use Rattle.rx_graph.specs.Fits.{Content, Number, Bytes, Assigned}
use Rattle.rx_values.specs.declared.valuation.Value.{Value}
use Rattle.rx_values.specs.Valuation.{assigned, content}
use Rattle.rx_values.specs.Names.{literal_numbered}
use Rattle.rx_values.specs.Printing.{literal_data, scalar_data, data_of, name_of, with_members, members_of}

clash : true ≡ false → ⊥
clash e = cc

literal_float : (n : ℕ) (o : Option Literal) → has_float (literal_data n o) ≡ false
literal_float n None = refl
literal_float n (Some l) = refl

no_float : (t : Option Domain) (c : Content) → has_float (data_of t c) ≡ false
no_float None (Number n) = refl
no_float None (Bytes bytes) = refl
no_float (Some (Integer first last size)) (Number n) = refl
no_float (Some (Enumeration literals size always_valid)) (Number n) = literal_float n (literal_numbered literals n)
no_float (Some t) (Bytes bytes) = refl

either : (a b : Bool) → a ≡ false → b ≡ false → (a || b) ≡ false
either a b h k = ap (λ x. x || b) h ∙ k

left_false : (a b : Bool) → (a || b) ≡ false → a ≡ false
left_false true b h = h
left_false false b h = refl

right_false : (a b : Bool) → (a || b) ≡ false → b ≡ false
right_false true b h = absurd (clash h)
right_false false b h = h

put_at : (o : Ordering) (k l : List ℕ) (d e : Data) (ms rest : Members) → has_float d ≡ false → has_float e ≡ false → members_have_float ms ≡ false → members_have_float rest ≡ false
    → members_have_float (match_ordering o (member k d (member l e ms)) (member l d ms) (member l e rest)) ≡ false
put_at Less k l d e ms rest a b c r = either (has_float d) (has_float e || members_have_float ms) a (either (has_float e) (members_have_float ms) b c)
put_at Equal k l d e ms rest a b c r = either (has_float d) (members_have_float ms) a c
put_at Greater k l d e ms rest a b c r = either (has_float e) (members_have_float rest) b r

put_no_float : (k : List ℕ) (d : Data) (ms : Members) → has_float d ≡ false → members_have_float ms ≡ false → members_have_float (put k d ms) ≡ false
put_no_float k d no_members a c = either (has_float d) false a refl
put_no_float k d (member l e ms) a c =
    let b = left_false (has_float e) (members_have_float ms) c in
    let r = right_false (has_float e) (members_have_float ms) c in
    put_at (slice_cmp nat_cmp k l) k l d e ms (put k d ms) a b r (put_no_float k d ms a r)

module _ (domains : List Domain) (m : Graph) where
  all_no_float : (values : List Assigned) (ms : Members) → members_have_float ms ≡ false → members_have_float (with_members domains m values ms) ≡ false
  all_no_float [] ms h = h
  all_no_float (a ∷ rest) ms h =
      let name = name_of m a.field in
      let d = data_of (type_of domains m a.field) a.content in
      all_no_float rest (put name d ms) (put_no_float name d ms (no_float (type_of domains m a.field) a.content) h)

  -- the text of the object
  pub text_of_object : (text : String Global) (values : List Assigned) (d : Data) → d ≡ object (members_of domains m values) → (has_float d ≡ false → string_bytes text ≡ compact_text d)
      → string_bytes text ≡ compact_text (object (members_of domains m values))
  text_of_object text values d h k = k (ap has_float h ∙ all_no_float values no_members refl) ∙ ap compact_text h

  -- one member more
  pub one_more : (vs : List (ℕ × Value)) (i : ℕ) (v : ℕ × Value) → v ≡ get_or vs i v → i < length vs → (es new : List (String Global × Json)) (name : String Global) (x : Json)
      → string_bytes name ≡ name_of m v.0 → view x ≡ data_of (type_of domains m v.0) (content v.1) → new ≡ insert_entry string_cmp es name x
      → with_members domains m (assigned (drop i vs)) (members_view es) ≡ with_members domains m (assigned (drop (i + 1) vs)) (members_view new)
  one_more vs i v is within es new name x named holds e =
      let first : drop i vs ≡ v ∷ drop (i + 1) vs = drop_more vs i v within ∙ ap (λ y. y ∷ drop (i + 1) vs) (sym is) in
      let now : members_view new ≡ put (name_of m v.0) (data_of (type_of domains m v.0) (content v.1)) (members_view es) =
      ap members_view e ∙ members_view-insert_entry es name x ∙ ap (λ n. put n (view x) (members_view es)) named ∙ ap (λ d. put (name_of m v.0) d (members_view es)) holds in
      ap (λ l. with_members domains m (assigned l) (members_view es)) first ∙ ap (with_members domains m (assigned (drop (i + 1) vs))) (sym now)
