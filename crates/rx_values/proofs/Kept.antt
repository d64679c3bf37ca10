-- What is printed of a field reads as what it holds.
use Rattle.std.proofs.Common.{◌≡◌, ◌∙◌, ℕ, zero, suc, ◌+◌, ◌-◌, ◌^◌, ◌<◌, ◌≤◌, List, [], ◌∷◌, Bool, true, false, not, Option, Some, None, Ok, refl, sym, ap, subst, cond, arith, length, map, codes}
use Rattle.std.specs.Prelude.{nat_lt, nat_le, ◌==◌, find, option_map, slice_get, slice_index_or, IfSome}
use Rattle.std.specs.Char.{to_ascii_lowercase}
use Rattle.std.specs.Str.{bytes_eq, IsUtf8, IsAscii, is_utf8}
use Rattle.std.specs.List.{AllByRecursion, list_all, prefix_len, position_or_len}
use Rattle.std.proofs.Math.Pow.{pow_mono}
use Rattle.std.proofs.lemmas.Bool.{lt-ltb, and_parts}
use Rattle.std.proofs.lemmas.Bool.Decides.{Decides-eqb, Decides-ltb}
use Rattle.std.proofs.lemmas.Slice.Eq.{bytes_eq-Decides}
use Rattle.std.proofs.lemmas.Str.{IsUtf8-from_ascii, is_utf8-from_IsUtf8}
use Rattle.std.proofs.lemmas.Str.Ascii.{IsAscii-nil, IsAscii-cons}
use Rattle.hex.specs.Hex.{encode_lower, lower_digits}
use Rattle.hex.proofs.HexLemmas.{decode_of-encode_lower, IsAscii-encode_with}
use Rattle.serde_json.specs.Data.{Data, object, no_members}
use Rattle.serde_json.specs.Read.{read}
use Rattle.serde_json.specs.Written.{compact_text}
use Rattle.rx_types.specs.Names.{IsName, IsSameName}
use Rattle.rx_types.specs.declared.scalar.Literal.{Literal}
use Rattle.rx_types.specs.declared.scalar.FieldType.{FieldType}
use Rattle.rx_types.specs.declared.scalar.FieldType.TheVariants.{Scalar, Opaque, Sequence}
use Rattle.rx_types.specs.Domain.{Domain, Integer, Enumeration, IsNumberOf, IsProper, AreLiterals, Differ, EachPair, size_of}
use Rattle.rx_graph.specs.declared.message.Field.{Field}
use Rattle.rx_graph.specs.Graph.{Graph, type_of, scalar_of}
use Rattle.rx_graph.specs.Elaborated.{IsElaborated, IsFieldType}
use Rattle.rx_graph.specs.Fits.{Content, Number, Bytes, Assigned, AscendFrom, IsAscending}
use Rattle.rx_values.specs.Names.{is_same, field_named, literal_named, literal_numbered}
use Rattle.rx_values.specs.Reading.{Refusal, if_in, is_in, ok_bytes, content_from, json_of, values_of, value_of}
use Rattle.rx_values.specs.Printing.{literal_data, data_of, name_if_any, name_of, members_of, json_text}
use Rattle.rx_values.specs.Laws.{HasKind, HasNames, IsHeld, IsValued, AreNamed, ReadsBack}
use Rattle.rx_values.proofs.Choices.{is_in_decides, name_ascii}
use Rattle.rx_values.proofs.Reread.{IsLeaf, AreLeaves, AreOrdered, object_reads, object_utf8}
use Rattle.rx_values.proofs.Arranged.{IsGiven, AreOthers, Apart, AllApart, listed, arranged, members_listed, members_read, members_ordered, holds_in_order}

-- ---- elements of lists

all_at : {A : Type 0} (P : A → Type 0) (xs : List A) (i : ℕ) (x : A) → slice_get xs i ≡ Some x → AllByRecursion P xs → P x
all_at P [] i x e all = absurd (let no : None ≡ Some x = e in cc)
all_at P (y ∷ ys) zero x e all = let same : y ≡ x = cc in subst P same all.0
all_at P (y ∷ ys) (suc i) x e all = all_at P ys i x e all.1

got : {A : Type 0} (xs : List A) (i : ℕ) → i < length xs → (x : A) × (slice_get xs i ≡ Some x)
got [] i h = absurd (omega arith)
got (x ∷ xs) zero h = (x, refl)
got (x ∷ xs) (suc i) h = got xs i (omega arith)

found_all : {A : Type 0} (P : A → Type 0) (test : A → Bool) (xs : List A) (x : A) → find test xs ≡ Some x → AllByRecursion P xs → P x
found_all P test [] x e all = absurd (let no : None ≡ Some x = e in cc)
found_all P test (y ∷ ys) x e all = go (test y) e (λ h. found_all P test ys x h all.1)
  where
    go : (b : Bool) → cond b (Some y) (find test ys) ≡ Some x → (find test ys ≡ Some x → P x) → P x
    go true h later = let same : y ≡ x = cc in subst P same all.0
    go false h later = later h

-- ---- names

same_itself : (a : List ℕ) → is_same a a ≡ true
same_itself a = (bytes_eq-Decides (map to_ascii_lowercase a) (map to_ascii_lowercase a)).1 refl

apart_names : (a b : List ℕ) → (IsSameName a b → ⊥) → is_same a b ≡ false
apart_names a b apart = go (is_same a b) refl
  where
    go : (t : Bool) → is_same a b ≡ t → is_same a b ≡ false
    go true e = absurd (apart ((bytes_eq-Decides (map to_ascii_lowercase a) (map to_ascii_lowercase b)).0 e))
    go false e = e

abbrev called : List ℕ → Field → Bool
called name f = is_same f.name name

next : (n : ℕ) → 1 + n ≡ suc n
next n = omega arith

place_is : (fields : List Field) (f : ℕ) → f < length fields → EachPair (λ a b. IsSameName a.name b.name → ⊥) fields → position_or_len (called (name_if_any (slice_get fields f))) fields ≡ f
place_is [] f h apart = absurd (omega arith)
place_is (x ∷ xs) zero h apart = ap (λ (b : Bool). cond (not b) (1 + position_or_len (called x.name) xs) 0) (same_itself x.name)
place_is (x ∷ xs) (suc f) h apart =
    let y = got xs f (omega arith) in
    let name = name_if_any (slice_get xs f) in
    let named : y.0.name ≡ name = sym (ap name_if_any y.1) in
    let other : is_same x.name name ≡ false = subst (λ n. is_same x.name n ≡ false) named (apart_names x.name y.0.name (all_at (λ z. IsSameName x.name z.name → ⊥) xs f y.0 y.1 apart.0)) in
    ap (λ (b : Bool). cond (not b) (1 + position_or_len (called name) xs) 0) other ∙ ap (λ k. 1 + k) (place_is xs f (omega arith) apart.1) ∙ next f

found_own : (fields : List Field) (f : ℕ) → f < length fields → EachPair (λ a b. IsSameName a.name b.name → ⊥) fields → field_named fields (name_if_any (slice_get fields f)) ≡ Some f
found_own fields f h apart =
    ap (λ k. cond (nat_lt k (length fields)) (Some k) None) (place_is fields f h apart) ∙ ap (λ (b : Bool). cond b (Some f) None) ((Decides-ltb f (length fields)).1 h)

-- ---- literals

found_literal : (ls : List Literal) (n : ℕ) (l : Literal) → EachPair Differ ls → literal_numbered ls n ≡ Some l → (find (λ x. is_same x.name l.name) ls ≡ Some l) × (l.number ≡ n)
found_literal [] n l apart e = absurd (let no : None ≡ Some l = e in cc)
found_literal (x ∷ xs) n l apart e = go (x.number == n) refl e (found_literal xs n l apart.1)
  where
    go : (b : Bool) → (x.number == n) ≡ b → cond b (Some x) (literal_numbered xs n) ≡ Some l → (literal_numbered xs n ≡ Some l → (find (λ y. is_same y.name l.name) xs ≡ Some l) × (l.number ≡ n)) → (find (λ y. is_same y.name l.name) (x ∷ xs) ≡ Some l) × (l.number ≡ n)
    go true is h rest =
        let same : x ≡ l = cc in
        let named : is_same x.name l.name ≡ true = subst (λ (y : Literal). is_same x.name y.name ≡ true) same (same_itself x.name) in
        (ap (λ (b : Bool). cond b (Some x) (find (λ y. is_same y.name l.name) xs)) named ∙ h, sym (ap (λ (y : Literal). y.number) same) ∙ (Decides-eqb x.number n).0 is)
    go false is h rest =
        let later = rest h in
        let differ = found_all (Differ x) (λ y. y.number == n) xs l h apart.0 in
        (ap (λ (b : Bool). cond b (Some x) (find (λ y. is_same y.name l.name) xs)) (apart_names x.name l.name differ.names) ∙ later.0, later.1)

-- ---- one field

abbrev number_if : ℕ → Bool → Option Content
number_if n b = option_map (λ k. Number k) (cond b (Some n) None)

whole_kept : (t : Domain) (n : ℕ) → IsNumberOf t n → number_if n (is_in t n) ≡ Some (Number n)
whole_kept t n h = ap (number_if n) ((is_in_decides t n).1 h)

kept : (t : Option Domain) (c : Content) → HasKind t c → IfSome t IsProper → content_from t (data_of t c) ≡ Some c
kept None (Number n) h proper = absurd h
kept None (Bytes bytes) h proper = ap ok_bytes (decode_of-encode_lower bytes h)
kept (Some (Integer first last size)) (Number n) h proper = whole_kept (Integer first last size) n h
kept (Some (Integer first last size)) (Bytes bytes) h proper = absurd h
kept (Some (Enumeration ls size valid)) (Bytes bytes) h proper = absurd h
kept (Some (Enumeration ls size valid)) (Number n) h proper = go (literal_numbered ls n) refl
  where
    go : (o : Option Literal) → literal_numbered ls n ≡ o → content_from (Some (Enumeration ls size valid)) (literal_data n o) ≡ Some (Number n)
    go None e = whole_kept (Enumeration ls size valid) n h
    go (Some l) e =
        let own = found_literal ls n l proper.2.differ e in
        ap (λ (o : Option Literal). option_map (λ k. Number k) (option_map (λ (x : Literal). x.number) o)) own.0 ∙ ap (λ k. Some (Number k)) own.1

-- ---- what is printed is UTF-8

ascii_from_test : (bytes : List ℕ) → list_all (λ b. nat_lt b 128) bytes ≡ true → IsAscii bytes
ascii_from_test [] h = IsAscii-nil
ascii_from_test (b ∷ bs) h =
    let parts = and_parts (nat_lt b 128) (list_all (λ x. nat_lt x 128) bs) h in
    IsAscii-cons b bs ((Decides-ltb b 128).0 parts.0) (ascii_from_test bs parts.1)

hex_utf8 : (bytes : List ℕ) → IsUtf8 (encode_lower bytes)
hex_utf8 bytes = IsUtf8-from_ascii (encode_lower bytes) (IsAscii-encode_with lower_digits bytes (ascii_from_test lower_digits refl))

name_utf8 : (name : List ℕ) → IsName name → IsUtf8 name
name_utf8 name h = IsUtf8-from_ascii name (name_ascii name h)

below_64 : (n size : ℕ) → n < 2 ^ size → size < 64 → n < 2 ^ 64
below_64 n size lt few = let most : 2 ^ size ≤ 2 ^ 64 = pow_mono {i = size} {j = 64} (omega arith) in omega arith

literal_below : (ls : List Literal) (size k : ℕ) (l : Literal) → k < length ls → slice_index_or ls k l ≡ l → AllByRecursion (λ x. x.number < 2 ^ size) ls → l.number < 2 ^ size
literal_below [] size k l h e all = absurd (omega arith)
literal_below (x ∷ xs) size zero l h e all = subst (λ (y : Literal). y.number < 2 ^ size) e all.0
literal_below (x ∷ xs) size (suc k) l h e all = literal_below xs size k l (omega arith) e all.1

number_below : (t : Domain) (n : ℕ) → IsProper t → IsNumberOf t n → n < 2 ^ 64
number_below (Integer first last size) n proper h = below_64 n size (let top = proper.3 in let most = h.1 in omega arith) proper.1
number_below (Enumeration ls size true) n proper h = below_64 n size h proper.1
number_below (Enumeration ls size false) n proper h = below_64 n size (subst (λ k. k < 2 ^ size) h.2 (literal_below ls size h.1.0 h.0 h.1.1 h.1.2 proper.2.below)) proper.1

leaf : (t : Option Domain) (c : Content) → HasKind t c → IfSome t IsProper → IfSome t HasNames → IsLeaf (data_of t c)
leaf None (Number n) h proper named = absurd h
leaf None (Bytes bytes) h proper named = hex_utf8 bytes
leaf (Some (Integer first last size)) (Number n) h proper named = number_below (Integer first last size) n proper h
leaf (Some (Integer first last size)) (Bytes bytes) h proper named = absurd h
leaf (Some (Enumeration ls size valid)) (Bytes bytes) h proper named = absurd h
leaf (Some (Enumeration ls size valid)) (Number n) h proper named = go (literal_numbered ls n) refl
  where
    go : (o : Option Literal) → literal_numbered ls n ≡ o → IsLeaf (literal_data n o)
    go None e = number_below (Enumeration ls size valid) n proper h
    go (Some l) e = name_utf8 l.name (found_all (λ x. IsName x.name) (λ x. x.number == n) ls l e named)

-- ---- all fields

module _ (domains : List Domain) (m : Graph) (elaborated : IsElaborated domains m) (named : AreNamed domains m) where
  -- the type of a field is proper, and its literals have names
  kind_proper : (k : FieldType) → IsFieldType domains m k → IfSome (elim k [ Scalar t ↦ slice_get domains t | Opaque ↦ None | Sequence t ↦ None ]) (λ t. IsProper t × HasNames t)
  kind_proper (Scalar t) h = subst (λ (o : Option Domain). IfSome o (λ d. IsProper d × HasNames d)) (sym h.1) (h.2, all_at HasNames domains t h.0 h.1 named.literals)
  kind_proper Opaque h = tt
  kind_proper (Sequence t) h = tt

  type_proper : (f : ℕ) → f < length m.fields → IfSome (type_of domains m f) (λ t. IsProper t × HasNames t)
  type_proper f h =
      let x = got m.fields f h in
      subst (λ (o : Option Field). IfSome (scalar_of domains o) (λ t. IsProper t × HasNames t)) (sym x.1) (kind_proper x.0.kind (elaborated.fields f x.0 x.1).kind)

  proper_of : (t : Option Domain) → IfSome t (λ d. IsProper d × HasNames d) → IfSome t IsProper × IfSome t HasNames
  proper_of None h = (tt, tt)
  proper_of (Some d) h = h

  given : (a : Assigned) → IsHeld domains m a → IsGiven domains m a
  given a h = record {
    found = found_own m.fields a.field h.within elaborated.names;
    reads = kept (type_of domains m a.field) a.content h.kind (proper_of (type_of domains m a.field) (type_proper a.field h.within)).0;
  }

  all_given : (values : List Assigned) → AllByRecursion (IsHeld domains m) values → AllByRecursion (IsGiven domains m) values
  all_given [] h = tt
  all_given (a ∷ more) h = (given a h.0, all_given more h.1)

  -- fields of different ids have different names
  others : (a b : Assigned) → IsHeld domains m a → IsHeld domains m b → a.field < b.field → AreOthers domains m a b
  others a b h k lt = record {
    fields = λ e. omega (arith, e);
    names = λ e. let same : Some a.field ≡ Some b.field = sym (found_own m.fields a.field h.within elaborated.names) ∙ ap (field_named m.fields) e ∙ found_own m.fields b.field k.within elaborated.names in let ids : a.field ≡ b.field = cc in omega (arith, ids);
  }

  apart_from : (a : Assigned) (more : List Assigned) (least : ℕ) → a.field ≤ least → AscendFrom least more → IsHeld domains m a → AllByRecursion (IsHeld domains m) more → Apart domains m a more
  apart_from a [] least low up h all = tt
  apart_from a (b ∷ more) least low up h all =
      let lt : a.field < b.field = (let first = up.0 in omega arith) in
      (others a b h all.0 lt, apart_from a more b.field (omega arith) up.1 h all.1)

  all_apart : (values : List Assigned) → IsAscending values → AllByRecursion (IsHeld domains m) values → AllApart domains m values
  all_apart [] up all = tt
  all_apart (a ∷ more) up all = (apart_from a more a.field (omega arith) up all.0 all.1, all_apart more (later more a.field up) all.1)
    where
      later : (rest : List Assigned) (least : ℕ) → AscendFrom least rest → IsAscending rest
      later [] least h = tt
      later (b ∷ rest) least h = h.1

  leaf_of : (a : Assigned) → IsHeld domains m a → IsUtf8 (name_of m a.field) × IsLeaf (data_of (type_of domains m a.field) a.content)
  leaf_of a h =
      let x = got m.fields a.field h.within in
      let both = proper_of (type_of domains m a.field) (type_proper a.field h.within) in
      (subst IsUtf8 (sym (ap name_if_any x.1)) (name_utf8 x.0.name (all_at (λ (f : Field). IsName f.name) m.fields a.field x.0 x.1 named.fields)), leaf (type_of domains m a.field) a.content h.kind both.0 both.1)

  abbrev IsPrinted : Assigned → Type 0
  IsPrinted a = IsUtf8 (name_of m a.field) × IsLeaf (data_of (type_of domains m a.field) a.content)

  all_printed : (values : List Assigned) → AllByRecursion (IsHeld domains m) values → AllByRecursion IsPrinted values
  all_printed [] h = tt
  all_printed (a ∷ more) h = (leaf_of a h.0, all_printed more h.1)

  leaves : (values : List Assigned) → AllByRecursion IsPrinted values → AreLeaves (listed domains m values)
  leaves [] h = tt
  leaves (a ∷ more) h = (h.0.0, h.0.1, leaves more h.1)

  pub reads_back : ReadsBack domains m
  reads_back values valued =
      let ms = members_of domains m values in
      let order = arranged domains m values [] in
      let are : AreLeaves ms = subst AreLeaves (sym (members_listed domains m values [])) (leaves order (holds_in_order domains m IsPrinted values [] (all_printed values valued.held) tt)) in
      let text = json_text domains m values in
      let utf8 : is_utf8 text ≡ true = is_utf8-from_IsUtf8 text (object_utf8 ms are) in
      let json : json_of text ≡ Some (object ms) = ap (λ (b : Bool). cond b (read text) None) utf8 ∙ object_reads ms are (members_ordered domains m values no_members tt) in
      ap (values_of domains m) json ∙ members_read domains m values valued.ascending (all_given values valued.held) (all_apart values valued.ascending valued.held)
