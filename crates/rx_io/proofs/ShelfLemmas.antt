-- Texts of entries, and what putting an entry does to them.
use Rattle.std.proofs.Common.{◌≡◌, ℕ, ◌<◌, ◌≤◌, true, false, cond, List, [], ◌∷◌, ◌++◌, length, set, get_or, map, find, bytes_eq, string_bytes, Option, None, Some, refl, sym, ap, ◌∙◌, subst}
use Rattle.std.specs.Option.{option_map, option_or}
use Rattle.std.specs.List.{position_or_len}
use Rattle.std.specs.Cmp.Lexicographic.{same_text}
use Rattle.std.proofs.lemmas.Slice.Eq.{bytes_eq-Decides}
use Rattle.std.proofs.lemmas.Bool.{false_from_ne_true, true_from_ne_false}
use Rattle.std.proofs.lemmas.Bool.Decides.{not_from_Decides}
use Rattle.std.proofs.lemmas.List.Folds.{find-set, find_past, find-append, find_at}
use Rattle.std.proofs.lemmas.Option.{slice_get_past}
use Rattle.std.proofs.lemmas.List.Sums.{passes_at_first}
use Rattle.rx_io.specs.declared.memory_shelf.Entry.{Entry}
use Rattle.rx_io.specs.Entries.{entry_of, is_named}
use Rattle.rx_io.specs.Shelf.{text_of, Puts}

-- the text under a name is that of the first entry of this name
pub text_of-map : (name : List ℕ) (entries : List Entry) → text_of name (map entry_of entries) ≡ option_map (λ e. e.text.items) (find (is_named name) entries)
text_of-map name [] = refl
text_of-map name (e ∷ es) =
    elim (bytes_eq (string_bytes e.name) name) as (λ b. option_map (λ t. t.1) (cond b (Some (entry_of e)) (find (λ t. bytes_eq t.0 name) (map entry_of es))) ≡ option_map (λ t. t.text.items) (cond b (Some e) (find (λ t. bytes_eq (string_bytes t.name) name) es)))
    [ true ↦ refl | false ↦ text_of-map name es ]

-- a test of equal bytes, and of others
pub bytes_eq-same : (xs ys : List ℕ) → xs ≡ ys → bytes_eq xs ys ≡ true
bytes_eq-same xs ys same = true_from_ne_false _ (λ no. not_from_Decides _ (bytes_eq-Decides xs ys) no same)

pub bytes_eq-other : (xs ys : List ℕ) → (xs ≡ ys → ⊥) → bytes_eq xs ys ≡ false
bytes_eq-other xs ys differ = false_from_ne_true _ (λ yes. differ (same_text xs ys (sym yes)))

-- an entry written over the first one of its name
pub Puts-set : (name text : List ℕ) (entries : List Entry) (entry : Entry) (i : ℕ) → string_bytes entry.name ≡ name → entry.text.items ≡ text
    → i ≡ position_or_len (is_named name) entries → i < length entries → Puts name text (map entry_of entries) (map entry_of (set entries i entry))
Puts-set name text entries entry i named holds first inside =
    let here : find (is_named name) (set entries i entry) ≡ Some entry = find-set (is_named name) entries i entry first inside (bytes_eq-same _ _ named) in
    let earlier : is_named name (get_or entries i entry) ≡ true =
    subst (λ k. is_named name (get_or entries k entry) ≡ true) (sym first) (passes_at_first (is_named name) entries entry (subst (λ k. k < length entries) first inside)) in
    record {
      under = text_of-map name (set entries i entry) ∙ ap (option_map (λ (e : Entry). e.text.items)) here ∙ ap Some holds;
      others = λ other differs.
          let old_other : is_named other (get_or entries i entry) ≡ false = bytes_eq-other _ _ (λ same. differs (sym same ∙ same_text _ _ (sym earlier))) in
          let new_other : is_named other entry ≡ false = bytes_eq-other _ _ (λ same. differs (sym same ∙ named)) in
          text_of-map other (set entries i entry) ∙ ap (option_map (λ (e : Entry). e.text.items)) (find_past (is_named other) entries i entry entry old_other new_other) ∙ sym (text_of-map other entries);
    }

-- nothing as the second choice
option_or-none : {X : Type 0} → (o : Option X) → option_or o None ≡ o
option_or-none None = refl
option_or-none (Some x) = refl

-- an entry of a name that none has, behind all others
pub Puts-push : (name text : List ℕ) (entries : List Entry) (entry : Entry) → string_bytes entry.name ≡ name → entry.text.items ≡ text
    → length entries ≤ position_or_len (is_named name) entries → Puts name text (map entry_of entries) (map entry_of (entries ++ entry ∷ []))
Puts-push name text entries entry named holds past =
    let absent : find (is_named name) entries ≡ None = find_at (is_named name) entries ∙ slice_get_past entries (position_or_len (is_named name) entries) past in
    let added : find (is_named name) (entry ∷ []) ≡ Some entry = ap (λ b. cond b (Some entry) None) (bytes_eq-same _ _ named) in
    let of_entry = λ (e : Entry). e.text.items in
    record {
      under = text_of-map name (entries ++ entry ∷ []) ∙ ap (option_map of_entry) (find-append (is_named name) entries (entry ∷ []) ∙ ap (λ o. option_or o (find (is_named name) (entry ∷ []))) absent ∙ added) ∙ ap Some holds;
      others = λ other differs.
          let new_other : is_named other entry ≡ false = bytes_eq-other _ _ (λ same. differs (sym same ∙ named)) in
          let none : find (is_named other) (entry ∷ []) ≡ None = ap (λ b. cond b (Some entry) None) new_other in
          text_of-map other (entries ++ entry ∷ []) ∙ ap (option_map of_entry) (find-append (is_named other) entries (entry ∷ []) ∙ ap (option_or (find (is_named other) entries)) none ∙ option_or-none (find (is_named other) entries)) ∙ sym (text_of-map other entries);
    }
