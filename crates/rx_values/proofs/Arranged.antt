-- Fields put in by their names, and read in the order of their names.
use Rattle.std.proofs.Common.{◌≡◌, ◌∙◌, ℕ, ◌<◌, ◌≤◌, List, [], ◌∷◌, Bool, true, false, Option, Some, None, Ok, refl, sym, ap, cond, arith, inl, inr, ◌⊎◌, Ordering, Less, Equal, Greater, nat_cmp}
use Rattle.std.specs.Prelude.{nat_lt, ◌==◌, Result, is_some}
use Rattle.std.specs.Ordering.{match_ordering, ordering_reverse}
use Rattle.std.specs.Cmp.Lexicographic.{slice_cmp}
use Rattle.std.specs.List.{AllByRecursion}
use Rattle.std.proofs.lemmas.Bool.Decides.{Decides-ltb, Decides-eqb, nat_tests}
use Rattle.std.proofs.lemmas.Cmp.{nat_list_cmp_total}
use Rattle.std.proofs.lemmas.Map.Text.{is_eq-slice_cmp}
use Rattle.std.proofs.lemmas.Slice.Eq.{bytes_eq-Decides}
use Rattle.std.specs.Ordering.{is_eq}
use Rattle.serde_json.specs.Data.{Data, Members, no_members, member, put}
use Rattle.rx_types.specs.Domain.{Domain}
use Rattle.rx_graph.specs.Graph.{Graph, type_of}
use Rattle.rx_graph.specs.Fits.{Content, Assigned, content_of, AscendFrom, IsAscending}
use Rattle.rx_values.specs.Names.{field_named}
use Rattle.rx_values.specs.Valuation.{inserted}
use Rattle.rx_values.specs.Reading.{Refusal, content_from, with_content, with_member, values_from, go_on}
use Rattle.rx_values.specs.Printing.{data_of, name_of, with_members, members_of}
use Rattle.rx_values.proofs.Judging.{judged}
use Rattle.rx_values.proofs.Reread.{IsLeast, AreOrdered}

-- ---- fields put into valuations

abbrev put_in : Assigned → List Assigned → List Assigned
put_in a values = inserted a.field a.content values

abbrev all_in : List Assigned → List Assigned → List Assigned
all_in [] values = values
all_in (a ∷ more) values = all_in more (put_in a values)

below : (a b : ℕ) → a < b → nat_lt a b ≡ true
below a b h = (Decides-ltb a b).1 h

not_below : (a b : ℕ) → b ≤ a → nat_lt a b ≡ false
not_below a b h = grind (arith, nat_tests)

not_less : (a b : ℕ) → nat_lt a b ≡ false → b ≤ a
not_less a b h = grind (arith, nat_tests)

lesser : (a b : ℕ) → b ≤ a → (a ≡ b → ⊥) → b < a
lesser a b h apart = omega arith

unequal : (a b : ℕ) → (a ≡ b → ⊥) → (a == b) ≡ false
unequal a b apart = grind (arith, nat_tests)

below_least : (a least b : ℕ) → a ≤ least → least < b → a < b
below_least a least b h lt = omega arith

less_most : (a b : ℕ) → a < b → a ≤ b
less_most a b h = omega arith

same_text : (a b : List ℕ) → slice_cmp nat_cmp a b ≡ Equal → a ≡ b
same_text a b h = (bytes_eq-Decides a b).0 (sym (is_eq-slice_cmp a b) ∙ ap is_eq h)

abbrev entry : ℕ → Content → Assigned
entry f c = record { field = f; content = c }

goes_behind : (f : ℕ) (c : Content) (a : Assigned) (rest : List Assigned) → nat_lt a.field f ≡ true → inserted f c (a ∷ rest) ≡ a ∷ inserted f c rest
goes_behind f c a rest e = ap (λ (b : Bool). cond b (a ∷ inserted f c rest) (entry f c ∷ a ∷ rest)) e

goes_before : (f : ℕ) (c : Content) (a : Assigned) (rest : List Assigned) → nat_lt a.field f ≡ false → inserted f c (a ∷ rest) ≡ entry f c ∷ a ∷ rest
goes_before f c a rest e = ap (λ (b : Bool). cond b (a ∷ inserted f c rest) (entry f c ∷ a ∷ rest)) e

places : (f g n : ℕ) → ((n < f) ⊎ ((f ≤ n) × (n < g))) ⊎ (g ≤ n)
places f g n = go (nat_lt n f) (nat_lt n g) refl refl
  where
    go : (b t : Bool) → nat_lt n f ≡ b → nat_lt n g ≡ t → ((n < f) ⊎ ((f ≤ n) × (n < g))) ⊎ (g ≤ n)
    go true t e h = inl (inl ((Decides-ltb n f).0 e))
    go false true e h = inl (inr (not_less n f e, (Decides-ltb n g).0 h))
    go false false e h = inr (not_less n g h)

-- puts of a lesser field f and of a greater field g change places
turned_up : (f g : ℕ) (c d : Content) → f < g → (values : List Assigned) → inserted f c (inserted g d values) ≡ inserted g d (inserted f c values)
turned_up f g c d lt [] = goes_before f c (entry g d) [] (not_below g f (omega arith)) ∙ sym (goes_behind g d (entry f c) [] (below f g lt))
turned_up f g c d lt (a ∷ rest) = go (places f g a.field) (turned_up f g c d lt rest)
  where
    go : ((a.field < f) ⊎ ((f ≤ a.field) × (a.field < g))) ⊎ (g ≤ a.field) → inserted f c (inserted g d rest) ≡ inserted g d (inserted f c rest) → inserted f c (inserted g d (a ∷ rest)) ≡ inserted g d (inserted f c (a ∷ rest))
    go (inl (inl h)) later =
        let first = below a.field f h in
        let second = below a.field g (omega arith) in
        ap (inserted f c) (goes_behind g d a rest second) ∙ goes_behind f c a (inserted g d rest) first ∙ ap (λ l. a ∷ l) later
        ∙ sym (ap (inserted g d) (goes_behind f c a rest first) ∙ goes_behind g d a (inserted f c rest) second)
    go (inl (inr h)) later =
        let first = not_below a.field f h.0 in
        let second = below a.field g h.1 in
        ap (inserted f c) (goes_behind g d a rest second) ∙ goes_before f c a (inserted g d rest) first
        ∙ sym (ap (inserted g d) (goes_before f c a rest first) ∙ goes_behind g d (entry f c) (a ∷ rest) (below f g lt) ∙ ap (λ l. entry f c ∷ l) (goes_behind g d a rest second))
    go (inr h) later =
        let first = not_below a.field f (omega arith) in
        let second = not_below a.field g h in
        ap (inserted f c) (goes_before g d a rest second) ∙ goes_before f c (entry g d) (a ∷ rest) (not_below g f (omega arith))
        ∙ sym (ap (inserted g d) (goes_before f c a rest first) ∙ goes_behind g d (entry f c) (a ∷ rest) (below f g lt) ∙ ap (λ l. entry f c ∷ l) (goes_before g d a rest second))

turned : (a b : Assigned) → (a.field ≡ b.field → ⊥) → (values : List Assigned) → put_in a (put_in b values) ≡ put_in b (put_in a values)
turned a b apart values = go (nat_lt a.field b.field) refl
  where
    go : (t : Bool) → nat_lt a.field b.field ≡ t → put_in a (put_in b values) ≡ put_in b (put_in a values)
    go true e = turned_up a.field b.field a.content b.content ((Decides-ltb a.field b.field).0 e) values
    go false e = let least = not_less a.field b.field e in
        let other : b.field < a.field = lesser a.field b.field least apart in
        sym (turned_up b.field a.field b.content a.content other values)

-- ---- fields in the order of their names

module _ (domains : List Domain) (m : Graph) where
  abbrev pub name : Assigned → List ℕ
  name a = name_of m a.field

  abbrev pub data_in : Assigned → Data
  data_in a = data_of (type_of domains m a.field) a.content

  abbrev pub listed : List Assigned → Members
  listed [] = no_members
  listed (a ∷ more) = member (name a) (data_in a) (listed more)

  abbrev arrange : Assigned → List Assigned → List Assigned
  arrange a [] = a ∷ []
  arrange a (b ∷ more) = match_ordering (slice_cmp nat_cmp (name a) (name b)) (a ∷ b ∷ more) (a ∷ more) (b ∷ arrange a more)

  -- all of the first arranged among the second
  abbrev pub arranged : List Assigned → List Assigned → List Assigned
  arranged [] there = there
  arranged (a ∷ more) there = arranged more (arrange a there)

  put_listed : (a : Assigned) (there : List Assigned) → put (name a) (data_in a) (listed there) ≡ listed (arrange a there)
  put_listed a [] = refl
  put_listed a (b ∷ more) = go (slice_cmp nat_cmp (name a) (name b)) refl (put_listed a more)
    where
      go : (o : Ordering) → slice_cmp nat_cmp (name a) (name b) ≡ o → put (name a) (data_in a) (listed more) ≡ listed (arrange a more)
          → match_ordering o (member (name a) (data_in a) (listed (b ∷ more))) (member (name b) (data_in a) (listed more)) (member (name b) (data_in b) (put (name a) (data_in a) (listed more)))
          ≡ listed (match_ordering o (a ∷ b ∷ more) (a ∷ more) (b ∷ arrange a more))
      go Less e later = refl
      go Equal e later = ap (λ k. member k (data_in a) (listed more)) (sym (same_text (name a) (name b) e))
      go Greater e later = ap (member (name b) (data_in b)) later

  pub members_listed : (values there : List Assigned) → with_members domains m values (listed there) ≡ listed (arranged values there)
  members_listed [] there = refl
  members_listed (a ∷ more) there = ap (with_members domains m more) (put_listed a there) ∙ members_listed more (arrange a there)

  -- two fields with different ids and names
  pub record AreOthers (a b : Assigned) : Type 0 where
    pub fields : a.field ≡ b.field → ⊥
    pub names : name a ≡ name b → ⊥

  turned_others : (a b : Assigned) → AreOthers a b → AreOthers b a
  turned_others a b h = record { fields = λ e. h.fields (sym e); names = λ e. h.names (sym e) }

  abbrev pub Apart : Assigned → List Assigned → Type 0
  Apart a [] = Unit {0}
  Apart a (b ∷ more) = AreOthers a b × Apart a more

  abbrev pub AllApart : List Assigned → Type 0
  AllApart [] = Unit {0}
  AllApart (a ∷ more) = Apart a more × AllApart more

  -- each of the first is apart from all of the second
  abbrev EachApart : List Assigned → List Assigned → Type 0
  EachApart [] there = Unit {0}
  EachApart (a ∷ more) there = Apart a there × EachApart more there

  apart_arranged : (b a : Assigned) (there : List Assigned) → AreOthers b a → Apart b there → Apart b (arrange a there)
  apart_arranged b a [] other h = (other, tt)
  apart_arranged b a (x ∷ more) other h = go (slice_cmp nat_cmp (name a) (name x)) (apart_arranged b a more other h.1)
    where
      go : (o : Ordering) → Apart b (arrange a more) → Apart b (match_ordering o (a ∷ x ∷ more) (a ∷ more) (x ∷ arrange a more))
      go Less later = (other, h)
      go Equal later = (other, h.1)
      go Greater later = (h.0, later)

  all_apart_arranged : (a : Assigned) (there : List Assigned) → Apart a there → AllApart there → AllApart (arrange a there)
  all_apart_arranged a [] h all = (tt, tt)
  all_apart_arranged a (x ∷ more) h all = go (slice_cmp nat_cmp (name a) (name x)) (all_apart_arranged a more h.1 all.1)
    where
      go : (o : Ordering) → AllApart (arrange a more) → AllApart (match_ordering o (a ∷ x ∷ more) (a ∷ more) (x ∷ arrange a more))
      go Less later = (h, all)
      go Equal later = (h.1, all.1)
      go Greater later = (apart_arranged x a more (turned_others a x h.0) all.0, later)

  each_apart_arranged : (values : List Assigned) (a : Assigned) (there : List Assigned) → Apart a values → EachApart values there → EachApart values (arrange a there)
  each_apart_arranged [] a there h each = tt
  each_apart_arranged (b ∷ more) a there h each = (apart_arranged b a there (turned_others a b h.0) each.0, each_apart_arranged more a there h.1 each.1)

  pub arranged_apart : (values there : List Assigned) → AllApart values → AllApart there → EachApart values there → AllApart (arranged values there)
  arranged_apart [] there all others each = others
  arranged_apart (a ∷ more) there all others each =
      arranged_apart more (arrange a there) all.1 (all_apart_arranged a there each.0 others) (each_apart_arranged more a there all.0 each.1)

  holds_arranged : (P : Assigned → Type 0) (a : Assigned) (there : List Assigned) → P a → AllByRecursion P there → AllByRecursion P (arrange a there)
  holds_arranged P a [] here all = (here, tt)
  holds_arranged P a (x ∷ more) here all = go (slice_cmp nat_cmp (name a) (name x)) (holds_arranged P a more here all.1)
    where
      go : (o : Ordering) → AllByRecursion P (arrange a more) → AllByRecursion P (match_ordering o (a ∷ x ∷ more) (a ∷ more) (x ∷ arrange a more))
      go Less later = (here, all)
      go Equal later = (here, all.1)
      go Greater later = (all.0, later)

  pub holds_in_order : (P : Assigned → Type 0) (values there : List Assigned) → AllByRecursion P values → AllByRecursion P there → AllByRecursion P (arranged values there)
  holds_in_order P [] there all others = others
  holds_in_order P (a ∷ more) there all others = holds_in_order P more (arrange a there) all.1 (holds_arranged P a there all.0 others)

  -- ---- the order of the puts does not count

  through : (a : Assigned) (there values : List Assigned) → Apart a there → all_in (arrange a there) values ≡ all_in there (put_in a values)
  through a [] values h = refl
  through a (b ∷ more) values h = go (slice_cmp nat_cmp (name a) (name b)) refl (through a more (put_in b values) h.1)
    where
      go : (o : Ordering) → slice_cmp nat_cmp (name a) (name b) ≡ o → all_in (arrange a more) (put_in b values) ≡ all_in more (put_in a (put_in b values)) → all_in (match_ordering o (a ∷ b ∷ more) (a ∷ more) (b ∷ arrange a more)) values ≡ all_in (b ∷ more) (put_in a values)
      go Less e later = refl
      go Equal e later = absurd (h.0.names (same_text (name a) (name b) e))
      go Greater e later = later ∙ ap (all_in more) (turned a b h.0.fields values)

  slid : (a : Assigned) (more values : List Assigned) → Apart a more → put_in a (all_in more values) ≡ all_in more (put_in a values)
  slid a [] values h = refl
  slid a (b ∷ more) values h = slid a more (put_in b values) h.1 ∙ ap (all_in more) (turned a b h.0.fields values)

  pub gathered : (values there found : List Assigned) → AllApart values → EachApart values there → all_in (arranged values there) found ≡ all_in there (all_in values found)
  gathered [] there found all each = refl
  gathered (a ∷ more) there found all each =
      gathered more (arrange a there) found all.1 (each_apart_arranged more a there all.0 each.1)
      ∙ through a there (all_in more found) each.0 ∙ ap (all_in there) (slid a more found all.0)

  -- ---- reading them

  -- the name is the field's own, and what is printed reads as what it holds
  pub record IsGiven (a : Assigned) : Type 0 where
    pub found : field_named m.fields (name a) ≡ Some a.field
    pub reads : content_from (type_of domains m a.field) (data_in a) ≡ Some a.content

  abbrev pub AreFresh : List Assigned → List Assigned → Type 0
  AreFresh more found = AllByRecursion (λ a. content_of a.field found ≡ None) more

  still_fresh : (a b : Assigned) (found : List Assigned) → (a.field ≡ b.field → ⊥) → content_of a.field found ≡ None → content_of a.field (put_in b found) ≡ None
  still_fresh a b [] apart none = ap (λ (t : Bool). cond t (Some b.content) None) (unequal b.field a.field (λ e. apart (sym e)))
  still_fresh a b (x ∷ more) apart none = go (nat_lt x.field b.field) (x.field == a.field) refl none (still_fresh a b more apart)
    where
      go : (t s : Bool) → (x.field == a.field) ≡ s → cond s (Some x.content) (content_of a.field more) ≡ None → (content_of a.field more ≡ None → content_of a.field (put_in b more) ≡ None)
          → content_of a.field (cond t (x ∷ put_in b more) (b ∷ x ∷ more)) ≡ None
      go t true e h later = absurd (let no : Some x.content ≡ None = h in cc)
      go true false e h later = ap (λ (s : Bool). cond s (Some x.content) (content_of a.field (put_in b more))) e ∙ later h
      go false false e h later =
          ap (λ (s : Bool). cond s (Some b.content) (content_of a.field (x ∷ more))) (unequal b.field a.field (λ k. apart (sym k)))
          ∙ ap (λ (s : Bool). cond s (Some x.content) (content_of a.field more)) e ∙ h

  fresh_more : (more : List Assigned) (b : Assigned) (found : List Assigned) → Apart b more → AreFresh more found → AreFresh more (put_in b found)
  fresh_more [] b found h fresh = tt
  fresh_more (a ∷ more) b found h fresh = (still_fresh a b found (λ e. h.0.fields (sym e)) fresh.0, fresh_more more b found h.1 fresh.1)

  pub reads_listed : (more found : List Assigned) → AllByRecursion IsGiven more → AllApart more → AreFresh more found → values_from domains m found (listed more) ≡ Ok (all_in more found)
  reads_listed [] found given apart fresh = refl
  reads_listed (a ∷ more) found given apart fresh =
      let here = judged domains m found (name a) (data_in a) a.field (Some a.content) given.0.found (ap is_some fresh.0) (sym given.0.reads) in
      ap (λ (r : Result (List Assigned) Refusal). go_on r (λ values. values_from domains m values (listed more))) here
      ∙ reads_listed more (put_in a found) given.1 apart.1 (fresh_more more a found apart.0 fresh.1)

  all_fresh : (more : List Assigned) → AreFresh more []
  all_fresh [] = tt
  all_fresh (a ∷ more) = (refl, all_fresh more)

  none_there : (values : List Assigned) → EachApart values []
  none_there [] = tt
  none_there (a ∷ more) = (tt, none_there more)

  -- ---- in the order of their ids they come back

  head_stays : (a : Assigned) (more found : List Assigned) (least : ℕ) → a.field ≤ least → AscendFrom least more → all_in more (a ∷ found) ≡ a ∷ all_in more found
  head_stays a [] found least low up = refl
  head_stays a (b ∷ more) found least low up =
      let lt : a.field < b.field = below_least a.field least b.field low up.0 in
      ap (all_in more) (goes_behind b.field b.content a found (below a.field b.field lt)) ∙ head_stays a more (put_in b found) b.field (less_most a.field b.field lt) up.1

  ascending_from : (least : ℕ) (more : List Assigned) → AscendFrom least more → IsAscending more
  ascending_from least [] up = tt
  ascending_from least (a ∷ more) up = up.1

  restored : (values : List Assigned) → IsAscending values → all_in values [] ≡ values
  restored [] up = refl
  restored (a ∷ more) up = head_stays a more [] a.field (omega arith) up ∙ ap (λ l. a ∷ l) (restored more (ascending_from a.field more up))

  -- what was printed is read
  pub members_read : (values : List Assigned) → IsAscending values → AllByRecursion IsGiven values → AllApart values → values_from domains m [] (members_of domains m values) ≡ Ok values
  members_read values up given apart =
      let order = arranged values [] in
      ap (values_from domains m []) (members_listed values []) ∙ reads_listed order [] (holds_in_order IsGiven values [] given tt) (arranged_apart values [] apart tt (none_there values)) (all_fresh order)
      ∙ ap Ok (gathered values [] [] apart (none_there values) ∙ restored values up)

-- ---- puts keep the order of keys

flipped : (a b : List ℕ) → slice_cmp nat_cmp a b ≡ Greater → slice_cmp nat_cmp b a ≡ Less
flipped a b h = nat_list_cmp_total.antisymm b a ∙ ap ordering_reverse h

least_over : (k l : List ℕ) (ms : Members) → slice_cmp nat_cmp k l ≡ Less → IsLeast l ms → IsLeast k ms
least_over k l no_members h least = tt
least_over k l (member x e ms) h least = (nat_list_cmp_total.trans k l x h least.0, least_over k l ms h least.1)

least_put : (l k : List ℕ) (d : Data) (ms : Members) → IsLeast l ms → slice_cmp nat_cmp l k ≡ Less → IsLeast l (put k d ms)
least_put l k d no_members least h = (h, tt)
least_put l k d (member x e ms) least h = go (slice_cmp nat_cmp k x) (least_put l k d ms least.1 h)
  where
    go : (o : Ordering) → IsLeast l (put k d ms) → IsLeast l (match_ordering o (member k d (member x e ms)) (member x d ms) (member x e (put k d ms)))
    go Less later = (h, least)
    go Equal later = least
    go Greater later = (least.0, later)

put_ordered : (k : List ℕ) (d : Data) (ms : Members) → AreOrdered ms → AreOrdered (put k d ms)
put_ordered k d no_members order = (tt, tt)
put_ordered k d (member l e ms) order = go (slice_cmp nat_cmp k l) refl (put_ordered k d ms order.1)
  where
    go : (o : Ordering) → slice_cmp nat_cmp k l ≡ o → AreOrdered (put k d ms) → AreOrdered (match_ordering o (member k d (member l e ms)) (member l d ms) (member l e (put k d ms)))
    go Less h later = ((h, least_over k l ms h order.0), order)
    go Equal h later = order
    go Greater h later = (least_put l k d ms order.0 (flipped k l h), later)

pub members_ordered : (domains : List Domain) (m : Graph) (values : List Assigned) (ms : Members) → AreOrdered ms → AreOrdered (with_members domains m values ms)
members_ordered domains m [] ms order = order
members_ordered domains m (a ∷ more) ms order =
    let k = name_of m a.field in
    let d = data_of (type_of domains m a.field) a.content in
    members_ordered domains m more (put k d ms) (put_ordered k d ms order)
