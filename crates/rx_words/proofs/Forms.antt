-- What words of a form ask for: names, and from 1 to 4,096 splits.
use Rattle.std.proofs.Common.{◌≡◌, ℕ, ◌≤◌, Bool, true, false, ◌&&◌, List, [], ◌∷◌, Option, None, Some, refl, subst, arith}
use Rattle.std.specs.Prelude.{option_and_then, option_map, nat_le, if◌then◌else◌, ◌==◌}
use Rattle.std.specs.List.{before_first, after_first}
use Rattle.std.proofs.lemmas.Bool.Decides.{nat_tests}
use Rattle.rx_words.specs.declared.line.CommandName.{CommandName}
use Rattle.rx_words.specs.declared.line.CommandName.TheVariants as code
use Rattle.rx_words.specs.Form.{Text, Given, nothing_given, any_word, command_named}
use Rattle.rx_words.specs.Names.{is_name, named, pair_in, pair_of}
use Rattle.rx_words.specs.Numbers.{decimal, is_numeral, number_in}
use Rattle.rx_words.specs.Words.{Asked, Check, Decode, Encode, Run, Load, Wanted, asked, deep_for, splits_of, judged, words_from, form_of, HasNames}

-- the value of an option is that of its first step's value
pub from_some : {A B : Type 0} (o : Option A) (f : A → Option B) (b : B) → option_and_then f o ≡ Some b → (a : A) × (o ≡ Some a) × (f a ≡ Some b)
from_some None f b is = absurd (let no : None ≡ Some b = is in cc)
from_some (Some a) f b is = (a, refl, is)

pub from_map : {A B : Type 0} (f : A → B) (o : Option A) (b : B) → option_map f o ≡ Some b → (a : A) × (o ≡ Some a) × (f a ≡ b)
from_map f None b is = absurd (let no : None ≡ Some b = is in cc)
from_map f (Some a) b is = (a, refl, (let same : f a ≡ b = cc in same))

both : (a b : Bool) → (a && b) ≡ true → (a ≡ true) × (b ≡ true)
both true b h = (refl, h)
both false b h = absurd (let no : false ≡ true = h in cc)

if_same : {A : Type 0} (b : Bool) (x y : A) → (if b then Some x else None) ≡ Some y → (b ≡ true) × (x ≡ y)
if_same true x y is = (refl, (let same : x ≡ y = cc in same))
if_same false x y is = absurd (let no : None ≡ Some y = is in cc)

named_is : (text name : List ℕ) → named text ≡ Some name → is_name name ≡ true
named_is text name is =
    let parts = if_same (is_name text) text name is in
    subst (λ (t : List ℕ). is_name t ≡ true) parts.1 parts.0

pair_names : (front back : List ℕ) (p : List ℕ × List ℕ) → pair_of front back ≡ Some p → (is_name p.0 ≡ true) × (is_name p.1 ≡ true)
pair_names front [] p is = absurd (let no : None ≡ Some p = is in cc)
pair_names front (b ∷ back) p is =
    let parts = if_same (is_name front && (b == 58 && is_name back)) (front, back) p is in
    let tests = both (is_name front) (b == 58 && is_name back) parts.0 in
    (subst (λ (q : List ℕ × List ℕ). is_name q.0 ≡ true) parts.1 tests.0, subst (λ (q : List ℕ × List ℕ). is_name q.1 ≡ true) parts.1 (both (b == 58) (is_name back) tests.1).1)

asked_names : (name : CommandName) (text : Text) (deep : Option Text) (a : Asked) → asked name text deep ≡ Some a → HasNames a
asked_names code.Check text deep a is =
    let from = from_map (λ p. Check p) (named text) a is in
    subst HasNames from.2 (named_is text from.0 from.1)
asked_names code.Decode text deep a is =
    let from = from_map (λ (p : Text × Text). Decode p.0 p.1 deep) (pair_in text) a is in
    subst HasNames from.2 (pair_names (before_first (λ b. b == 58) text) (after_first (λ b. b == 58) text) from.0 from.1)
asked_names code.Encode text deep a is =
    let from = from_map (λ (p : Text × Text). Encode p.0 p.1) (pair_in text) a is in
    subst HasNames from.2 (pair_names (before_first (λ b. b == 58) text) (after_first (λ b. b == 58) text) from.0 from.1)
asked_names code.Run text deep a is =
    let from = from_map (λ (p : Text × Text). Run p.0 p.1) (pair_in text) a is in
    subst HasNames from.2 (pair_names (before_first (λ b. b == 58) text) (after_first (λ b. b == 58) text) from.0 from.1)
asked_names code.Load text deep a is =
    let from = from_map (λ count. Load count) (number_in 1 1000 text) a is in
    subst HasNames from.2 tt

-- ---- splits

abbrev IsFew : ℕ → Type 0
IsFew n = (1 ≤ n) × (n ≤ 4096)

few_of : (n : ℕ) → nat_le n 4096 ≡ true → nat_le 1 n ≡ true → IsFew n
few_of n most least = (grind (arith, nat_tests), grind (arith, nat_tests))

number_few : (text : Text) (n : ℕ) → number_in 1 4096 text ≡ Some n → IsFew n
number_few text n is =
    let parts = if_same (is_numeral text && (nat_le (decimal text) 4096 && nat_le 1 (decimal text))) (decimal text) n is in
    let tests = both (nat_le (decimal text) 4096) (nat_le 1 (decimal text)) (both (is_numeral text) (nat_le (decimal text) 4096 && nat_le 1 (decimal text)) parts.0).1 in
    subst IsFew parts.1 (few_of (decimal text) tests.0 tests.1)

splits_few : (o : Option Text) (n : ℕ) → splits_of o ≡ Some n → IsFew n
splits_few None n is = (let same : 1024 ≡ n = cc in subst IsFew same (omega arith, omega arith))
splits_few (Some text) n is = number_few text n is

-- ---- requests

pub record IsMade (w : Wanted) : Type 0 where
  pub names : HasNames w.command
  pub few : (1 ≤ w.splits) × (w.splits ≤ 4096)

wanted_made : (w v : Wanted) → Some w ≡ Some v → IsMade w → IsMade v
wanted_made w v is made = (let same : w ≡ v = cc in subst IsMade same made)

judged_made : (name : CommandName) (g : Given) (w : Wanted) → judged name g ≡ Some w → IsMade w
judged_made name g w is =
    let text = from_some g.operand_value (λ text. option_and_then (λ deep. option_and_then (λ splits. option_and_then (λ command. Some (record { command = command; splits = splits })) (asked name text deep)) (splits_of g.splits_value)) (deep_for name g.deep_value)) w is in
    let deep = from_some (deep_for name g.deep_value) (λ deep. option_and_then (λ splits. option_and_then (λ command. Some (record { command = command; splits = splits })) (asked name text.0 deep)) (splits_of g.splits_value)) w text.2 in
    let splits = from_some (splits_of g.splits_value) (λ splits. option_and_then (λ command. Some (record { command = command; splits = splits })) (asked name text.0 deep.0)) w deep.2 in
    let command = from_some (asked name text.0 deep.0) (λ command. Some (record { command = command; splits = splits.0 })) w splits.2 in
    wanted_made (record { command = command.0; splits = splits.0 }) w command.2 (record { names = asked_names name text.0 deep.0 command.0 command.1; few = splits_few g.splits_value splits.0 splits.1 })

pub form_made : (words : List Text) (w : Wanted) → form_of words ≡ Some w → IsMade w
form_made [] w is = absurd (let no : None ≡ Some w = is in cc)
form_made (word ∷ rest) w is =
    let name = from_some (command_named word) (λ name. option_and_then (judged name) (words_from any_word nothing_given rest)) w is in
    let given = from_some (words_from any_word nothing_given rest) (judged name.0) w name.2 in
    judged_made name.0 given.0 w given.2
