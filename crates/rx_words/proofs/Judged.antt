-- Where what is given is judged, and no value passes that begins with a hyphen, words that clap
-- refuses for a hyphen may as well be taken for values.
use Rattle.std.proofs.Common.{◌≡◌, ◌∙◌, ℕ, Bool, true, false, List, [], ◌∷◌, Option, Some, None, is_some, ◌||◌, ◌&&◌, refl, sym, ap, ap₂, codes, cond, true≢false, subst}
use Rattle.std.specs.Prelude.{option_and_then, option_map, ◌==◌}
use Rattle.std.specs.Str.{bytes_eq}
use Rattle.std.proofs.Math.Bool.{and-false}
use Rattle.rx_words.specs.declared.line.CommandName.{CommandName}
use Rattle.rx_words.specs.declared.line.CommandName.TheVariants.{Check, Decode, Encode, Run, Load}
use Rattle.std.proofs.lemmas.Slice.Eq.{bytes_eq-Decides}
use Rattle.std.proofs.lemmas.Bool.{eqb-true}
use Rattle.clap.specs.Lexer.{long_of, short_of, long_of_rest, strip_byte}
use Rattle.rx_words.specs.Form.{Text, Slot, operand, splits, deep, Given, value_at, set_at, give, Stage, any_word, value_of, operands, given_from, after_word, after_option, after_other, stay, option_named, at_end, nothing_given, given_by, parts_of, command_named}
use Rattle.std.specs.Prelude.{Err}
use Rattle.rx_words.specs.declared.fault.WordsFault.{WordsFault}
use Rattle.rx_words.specs.declared.fault.WordsFault.TheVariants.{Form, NoMemory}
use Rattle.rx_words.specs.Read.{ReadsParts, ReadsWords}
use Rattle.rx_words.specs.Words as words
use Rattle.std.specs.List.{before_first, after_first, position_or_len}
use Rattle.std.proofs.Common.{◌+◌, suc, take, arith}
use Rattle.rx_words.specs.Names.{is_name, pair_of, pair_in}
use Rattle.rx_words.specs.Words.{Asked, Wanted, asked, splits_of, deep_for, judged, option_of, option_in, option_or_operand, with_word, words_from, form_of}
use Rattle.rx_words.proofs.Walks.{short_shape, any_is, value_is, any_by, Long}

abbrev pub Hyphened : Text → Type 0
Hyphened word = (rest : Text) × (word ≡ 45 ∷ rest)

long_hyphened : (word : Text) (p : Text × Option Text) → long_of word ≡ Some p → Hyphened word
long_hyphened [] p e = absurd (true≢false (sym (ap is_some e)))
long_hyphened (b ∷ bs) p e = go (b == 45) refl e
  where
    go : (h : Bool) → (b == 45) ≡ h → option_and_then long_of_rest (option_and_then (strip_byte 45) (cond h (Some bs) None)) ≡ Some p → Hyphened (b ∷ bs)
    go true is h = (bs, ap (λ n. n ∷ bs) (eqb-true b 45 is))
    go false is h = absurd (true≢false (sym (ap is_some h)))

short_hyphened : (word flags : Text) → short_of word ≡ Some flags → Hyphened word
short_hyphened word flags e = let s = short_shape word flags e in (s.0 ∷ s.1, s.2)

dashes_hyphened : (word : Text) → bytes_eq word (codes "--") ≡ true → Hyphened word
dashes_hyphened word e = (45 ∷ [], (bytes_eq-Decides word (codes "--")).0 e)

set_keeps : (slot t : Slot) (v w : Text) (g : Given) → value_at slot g ≡ Some v → is_some (value_at t g) ≡ false → value_at slot (set_at t w g) ≡ Some v
set_keeps operand operand v w g e n = absurd (true≢false (sym (ap is_some e) ∙ n))
set_keeps splits splits v w g e n = absurd (true≢false (sym (ap is_some e) ∙ n))
set_keeps deep deep v w g e n = absurd (true≢false (sym (ap is_some e) ∙ n))
set_keeps operand splits v w g e n = e
set_keeps operand deep v w g e n = e
set_keeps splits operand v w g e n = e
set_keeps splits deep v w g e n = e
set_keeps deep operand v w g e n = e
set_keeps deep splits v w g e n = e

set_new : (t : Slot) (w : Text) (g : Given) → value_at t (set_at t w g) ≡ Some w
set_new operand w g = refl
set_new splits w g = refl
set_new deep w g = refl

-- an option by its name and the value that is attached
abbrev option_at : Text × Option Text → Option (Slot × Option Text)
option_at p = option_map (λ slot. (slot, p.1)) (option_named p.0)

option_in_is : (word : Text) → option_in word ≡ option_and_then option_at (long_of word)
option_in_is word = go (option_and_then (strip_byte 45) (strip_byte 45 word))
  where
    go : (o : Option Text) → option_and_then option_of o ≡ option_and_then option_at (option_and_then long_of_rest o)
    go None = refl
    go (Some []) = refl
    go (Some (b ∷ bs)) = refl

module _ {C : Type 0} (judge : Given → Option C) (strict : (slot : Slot) (g : Given) (v : Text) → value_at slot g ≡ Some (45 ∷ v) → judge g ≡ None) where
  abbrev next_words : List Text → Stage × Given → Option Given
  next_words rest next = words_from next.0 next.1 rest

  abbrev next_given : List Text → Stage × Given → Option Given
  next_given rest next = given_from next.0 next.1 rest

  abbrev Loses : List Text → Type 0
  Loses rest = (stage : Stage) (g : Given) (slot : Slot) (v : Text) → value_at slot g ≡ Some (45 ∷ v) → option_and_then judge (words_from stage g rest) ≡ None

  give_loses : (rest : List Text) → Loses rest → (stage : Stage) (t : Slot) (w : Text) (g : Given) (slot : Slot) (v : Text) → value_at slot g ≡ Some (45 ∷ v)
      → option_and_then judge (option_and_then (next_words rest) (stay stage (give t w g))) ≡ None
  give_loses rest later stage t w g slot v e = go (is_some (value_at t g)) refl
    where
      go : (b : Bool) → is_some (value_at t g) ≡ b → option_and_then judge (option_and_then (next_words rest) (stay stage (cond b None (Some (set_at t w g))))) ≡ None
      go true n = refl
      go false n = later stage (set_at t w g) slot v (set_keeps slot t (45 ∷ v) w g e n)

  -- a value with a hyphen is there to the end
  loses : (words : List Text) → Loses words
  unfolding words_from
  loses [] any_word g slot v e = strict slot g v e
  loses [] (value_of t) g slot v e = refl
  loses [] operands g slot v e = strict slot g v e
  loses (word ∷ rest) any_word g slot v e = go (bytes_eq word (codes "--")) (option_in word) (loses rest)
    where
      go : (b : Bool) (o : Option (Slot × Option Text)) → Loses rest → option_and_then judge (option_and_then (next_words rest) (cond b (Some (operands, g)) (option_or_operand g word o))) ≡ None
      go true o later = later operands g slot v e
      go false None later = give_loses rest later any_word operand word g slot v e
      go false (Some (t, None)) later = later (value_of t) g slot v e
      go false (Some (t, Some w)) later = give_loses rest later any_word t w g slot v e
  loses (word ∷ rest) (value_of t) g slot v e = give_loses rest (loses rest) any_word t word g slot v e
  loses (word ∷ rest) operands g slot v e = give_loses rest (loses rest) operands operand word g slot v e

  give_drops : (rest : List Text) (stage : Stage) (t : Slot) (word : Text) (g : Given) → Hyphened word → None ≡ option_and_then judge (option_and_then (next_words rest) (stay stage (give t word g)))
  give_drops rest stage t word g h = go (is_some (value_at t g))
    where
      go : (b : Bool) → None ≡ option_and_then judge (option_and_then (next_words rest) (stay stage (cond b None (Some (set_at t word g)))))
      go true = refl
      go false = sym (loses rest stage (set_at t word g) t h.0 (set_new t word g ∙ ap (λ w. Some w) h.1))

  abbrev Same : List Text → Type 0
  Same rest = (stage : Stage) (g : Given) → option_and_then judge (given_from stage g rest) ≡ option_and_then judge (words_from stage g rest)

  give_same : (rest : List Text) → Same rest → (stage : Stage) (t : Slot) (w : Text) (g : Given)
      → option_and_then judge (option_and_then (next_given rest) (stay stage (give t w g))) ≡ option_and_then judge (option_and_then (next_words rest) (stay stage (give t w g)))
  give_same rest later stage t w g = go (is_some (value_at t g))
    where
      go : (b : Bool) → option_and_then judge (option_and_then (next_given rest) (stay stage (cond b None (Some (set_at t w g))))) ≡ option_and_then judge (option_and_then (next_words rest) (stay stage (cond b None (Some (set_at t w g)))))
      go true = refl
      go false = later stage (set_at t w g)

  abbrev Agree : List Text → Option (Stage × Given) → Option (Stage × Given) → Type 0
  Agree rest a b = option_and_then judge (option_and_then (next_given rest) a) ≡ option_and_then judge (option_and_then (next_words rest) b)

  any_words : (g : Given) (word : Text) (dashes : Bool) (long : Long) → bytes_eq word (codes "--") ≡ dashes → long_of word ≡ long
      → with_word any_word g word ≡ cond dashes (Some (operands, g)) (option_or_operand g word (option_and_then option_at long))
  any_words g word dashes long e l = ap₂ (λ b lo. cond b (Some (operands, g)) (option_or_operand g word lo)) e (option_in_is word ∙ ap (option_and_then option_at) l)

  any_same : (word : Text) (rest : List Text) → Same rest → (g : Given) → Agree rest (after_word any_word g word) (with_word any_word g word)
  any_same word rest later g = go (bytes_eq word (codes "--")) (long_of word) refl refl
    where
      named : (p : Text × Option Text) (o : Option Slot) → Hyphened word
          → Agree rest (option_and_then (λ slot. after_option p.1 slot g) o) (option_or_operand g word (option_map (λ slot. (slot, p.1)) o))
      named p None h = give_drops rest any_word operand word g h
      named (name, None) (Some slot) h = later (value_of slot) g
      named (name, Some v) (Some slot) h = give_same rest later any_word slot v g

      other : (short : Option Text) → short_of word ≡ short → Agree rest (cond (is_some short) None (stay any_word (give operand word g))) (stay any_word (give operand word g))
      other None s = give_same rest later any_word operand word g
      other (Some flags) s = give_drops rest any_word operand word g (short_hyphened word flags s)

      go : (dashes : Bool) (long : Long) → bytes_eq word (codes "--") ≡ dashes → long_of word ≡ long → Agree rest (after_word any_word g word) (with_word any_word g word)
      go true long e l = subst (λ o. Agree rest o (with_word any_word g word)) (sym (any_is g word true long e l)) (subst (Agree rest (Some (operands, g))) (sym (any_words g word true long e l)) (later operands g))
      go false (Some p) e l = subst (λ o. Agree rest o (with_word any_word g word)) (sym (any_is g word false (Some p) e l))
          (subst (Agree rest (any_by g word false (Some p))) (sym (any_words g word false (Some p) e l)) (named p (option_named p.0) (long_hyphened word p l)))
      go false None e l = subst (λ o. Agree rest o (with_word any_word g word)) (sym (any_is g word false None e l))
          (subst (Agree rest (any_by g word false None)) (sym (any_words g word false None e l)) (other (short_of word) refl))

  value_same : (slot : Slot) (word : Text) (rest : List Text) → Same rest → (g : Given) → Agree rest (after_word (value_of slot) g word) (with_word (value_of slot) g word)
  value_same slot word rest later g = go (bytes_eq word (codes "--")) (long_of word) (short_of word) refl refl refl
    where
      go : (dashes : Bool) (long : Long) (short : Option Text) → bytes_eq word (codes "--") ≡ dashes → long_of word ≡ long → short_of word ≡ short
          → Agree rest (after_word (value_of slot) g word) (with_word (value_of slot) g word)
      go true long short e l s = subst (λ o. Agree rest o (with_word (value_of slot) g word)) (sym (value_is slot g word true long e l)) (give_drops rest any_word slot word g (dashes_hyphened word e))
      go false (Some p) short e l s = subst (λ o. Agree rest o (with_word (value_of slot) g word)) (sym (value_is slot g word false (Some p) e l)) (give_drops rest any_word slot word g (long_hyphened word p l))
      go false None (Some flags) e l s = subst (λ o. Agree rest o (with_word (value_of slot) g word))
          (sym (value_is slot g word false None e l ∙ ap (λ o. cond (is_some o) None (stay any_word (give slot word g))) s)) (give_drops rest any_word slot word g (short_hyphened word flags s))
      go false None None e l s = subst (λ o. Agree rest o (with_word (value_of slot) g word))
          (sym (value_is slot g word false None e l ∙ ap (λ o. cond (is_some o) None (stay any_word (give slot word g))) s)) (give_same rest later any_word slot word g)

  -- judged, the two forms are one
  pub same_judged : (words : List Text) → Same words
  unfolding given_from words_from
  same_judged [] stage g = refl
  same_judged (word ∷ rest) any_word g = any_same word rest (same_judged rest) g
  same_judged (word ∷ rest) (value_of slot) g = value_same slot word rest (same_judged rest) g
  same_judged (word ∷ rest) operands g = give_same rest (same_judged rest) operands operand word g

-- ---- the form here

-- what is asked for by an operand, splits and a package of `--deep`
abbrev judged_by : CommandName → Option Text → Option Text → Option Text → Option Wanted
judged_by name o s d = judged name (record { operand_value = o; splits_value = s; deep_value = d })

abbrev told : Asked → ℕ → Option Wanted
told command n = Some (record { command = command; splits = n })

abbrev pick : Bool → Text → Text → Option (Text × Text)
pick t front back = cond t (Some (front, back)) None

no_front : (front rest : Text) → is_name front ≡ false → pair_of front rest ≡ None
no_front front [] e = refl
no_front front (b ∷ back) e = ap (λ t. pick (t && (b == 58 && is_name back)) front back) e

front_fails : (v : Text) → is_name (before_first (λ b. b == 58) (45 ∷ v)) ≡ false
front_fails v =
    let n = position_or_len (λ b. b == 58) v in
    let e : 1 + n ≡ suc n = omega arith in
    ap (λ k. is_name (take k (45 ∷ v))) e

-- a name does not begin with a hyphen
no_pair : (v : Text) → pair_in (45 ∷ v) ≡ None
no_pair v = no_front (before_first (λ b. b == 58) (45 ∷ v)) (after_first (λ b. b == 58) (45 ∷ v)) (front_fails v)

no_text : (name : CommandName) (v : Text) (q : Option Text) → asked name (45 ∷ v) q ≡ None
no_text Check v q = refl
no_text Decode v q = ap (option_map (λ (p : Text × Text). words.Decode p.0 p.1 q)) (no_pair v)
no_text Encode v q = ap (option_map (λ (p : Text × Text). words.Encode p.0 p.1)) (no_pair v)
no_text Run v q = ap (option_map (λ (p : Text × Text). words.Run p.0 p.1)) (no_pair v)
no_text Load v q = refl

no_deep : (name : CommandName) (v : Text) → deep_for name (Some (45 ∷ v)) ≡ None
no_deep Check v = refl
no_deep Decode v = refl
no_deep Encode v = refl
no_deep Run v = refl
no_deep Load v = refl

no_splits : (v : Text) → splits_of (Some (45 ∷ v)) ≡ None
no_splits v = refl

bad_operand : (name : CommandName) (v : Text) (s d : Option Text) → judged_by name (Some (45 ∷ v)) s d ≡ None
bad_operand name v s d = go (deep_for name d) (splits_of s)
  where
    go : (q : Option (Option Text)) (given : Option ℕ)
        → option_and_then (λ (x : Option Text). option_and_then (λ (n : ℕ). option_and_then (λ command. told command n) (asked name (45 ∷ v) x)) given) q ≡ None
    go None given = refl
    go (Some x) None = refl
    go (Some x) (Some n) = ap (option_and_then (λ command. told command n)) (no_text name v x)

bad_splits : (name : CommandName) (v : Text) (o d : Option Text) → judged_by name o (Some (45 ∷ v)) d ≡ None
bad_splits name v None d = refl
bad_splits name v (Some text) d = go (deep_for name d)
  where
    go : (q : Option (Option Text)) → option_and_then (λ (x : Option Text). option_and_then (λ (n : ℕ). option_and_then (λ command. told command n) (asked name text x)) (splits_of (Some (45 ∷ v)))) q ≡ None
    go None = refl
    go (Some x) = ap (option_and_then (λ (n : ℕ). option_and_then (λ command. told command n) (asked name text x))) (no_splits v)

bad_deep : (name : CommandName) (v : Text) (o s : Option Text) → judged_by name o s (Some (45 ∷ v)) ≡ None
bad_deep name v None s = refl
bad_deep name v (Some text) s = ap (option_and_then (λ (x : Option Text). option_and_then (λ (n : ℕ). option_and_then (λ command. told command n) (asked name text x)) (splits_of s))) (no_deep name v)

-- nothing is asked for by a value that begins with a hyphen
starts_badly : (name : CommandName) (slot : Slot) (g : Given) (v : Text) → value_at slot g ≡ Some (45 ∷ v) → judged name g ≡ None
starts_badly name operand g v e = ap (λ o. judged_by name o g.splits_value g.deep_value) e ∙ bad_operand name v g.splits_value g.deep_value
starts_badly name splits g v e = ap (λ o. judged_by name g.operand_value o g.deep_value) e ∙ bad_splits name v g.operand_value g.deep_value
starts_badly name deep g v e = ap (λ o. judged_by name g.operand_value g.splits_value o) e ∙ bad_deep name v g.operand_value g.splits_value

abbrev pub judged_parts : Option (CommandName × Given) → Option Wanted
judged_parts = option_and_then (λ p. judged p.0 p.1)

-- reading the parts and judging them gives the form
pub form_is : (words : List Text) → form_of words ≡ judged_parts (parts_of words)
form_is [] = refl
form_is (word ∷ rest) = go (command_named word)
  where
    paired : (c : CommandName) (q : Option Given) → option_and_then (judged c) q ≡ judged_parts (option_map (λ (g : Given). (c, g)) q)
    paired c None = refl
    paired c (Some g) = refl

    go : (o : Option CommandName) → option_and_then (λ (c : CommandName). option_and_then (judged c) (words_from any_word nothing_given rest)) o
        ≡ judged_parts (option_and_then (λ (c : CommandName). option_map (λ (g : Given). (c, g)) (given_by rest)) o)
    go None = refl
    go (Some c) = sym (same_judged (judged c) (starts_badly c) rest any_word nothing_given) ∙ paired c (given_by rest)

pub reads_form : (words : List Text) (name : CommandName) (g : Given) (o : Option Wanted) → parts_of words ≡ Some (name, g) → o ≡ judged name g → form_of words ≡ o
reads_form words name g o e h = form_is words ∙ ap judged_parts e ∙ sym h

pub err_form : (words : List Text) (f : WordsFault) → ReadsParts (parts_of words) (Err f) → ReadsWords (form_of words) (Err f)
err_form words Form e = form_is words ∙ ap judged_parts e
err_form words NoMemory e = tt
