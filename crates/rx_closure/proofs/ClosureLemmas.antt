-- From what was read to the walk, over plain texts and lists of names.
use Rattle.std.proofs.Common.{◌≡◌, ℕ, ◌+◌, ◌<◌, ◌≤◌, ◌⊎◌, inl, inr, Bool, true, false, List, [], ◌∷◌, ◌++◌, length, map, take, drop, get_or, take-append-drop, add-one, refl, sym, ap, ◌∙◌, subst, arith, length-append, Option, Some, None, IfSome, if◌then◌else◌}
use Rattle.std.specs.Prelude.{slice_get, IsSomeAnd}
use Rattle.std.specs.List.{list_any}
use Rattle.std.specs.Str.{str_to_ascii_lowercase}
use Rattle.std.proofs.lemmas.List.{take_more, take-append-le}
use Rattle.std.proofs.lemmas.Option.{get_or_from_slice_get, slice_get_within}
use Rattle.std.proofs.Math.Seq.{take-length}
use mathlib.Core.List.{map-append}
use Rattle.rx_io.specs.declared.shelf.Fetched.{Fetched}
use Rattle.rx_io.specs.declared.shelf.Fetched.TheVariants.{Text, Absent, TooLong}
use Rattle.rx_io.specs.Shelf.{Texts, text_of, text_limit, Finds, IsWithin, SameTexts}
use Rattle.rx_syntax.specs.declared.token.Place.{Place}
use Rattle.rx_syntax.specs.declared.token.Token.{Token}
use Rattle.rx_syntax.specs.declared.fault.LexFault.{LexFault}
use Rattle.rx_syntax.specs.declared.fault.LexFault.TheVariants as lexer
use Rattle.rx_syntax.specs.declared.tree.Named.{Named}
use Rattle.rx_syntax.specs.Text.{AreTokens, IsFault}
use Rattle.rx_grammar.specs.declared.syntax.SyntaxFault.{SyntaxFault}
use Rattle.rx_grammar.specs.declared.syntax.SyntaxFault.TheVariants as parser
use Rattle.rx_grammar.specs.Grammar.{rule, plain_file}
use Rattle.rx_grammar.specs.Syntax.{IsSyntaxFault}
use Rattle.rx_closure.specs.Names.{is_same}
use Rattle.rx_syntax.specs.declared.rule.Refusal.{Refusal}
use Rattle.rx_syntax.specs.declared.tree.PackageTree.{PackageTree}
use Rattle.rx_closure.specs.declared.closure.Stop.{Stop}
use Rattle.rx_closure.specs.declared.closure.Stop.TheVariants.{Fault, NoPackage, TextLimit, Refused, PackageLimit, NoMemory}
use Rattle.rx_closure.specs.Refusals.{lexer_refusal, parser_refusal}
use Rattle.rx_closure.specs.Closure.{package_limit, HasNone, HasLong, HasText, IsRefused, by_lexer, by_parser, IsTree, HasRefused, HasTree, withs_of, added_one, added, IsStep, passes, reads, Walked, begins, goes_on, Reaches, AreFetched, no_packages, one_absent, one_fetched, IsClosure, ArePaired}
use Rattle.rx_closure.specs.Stop.{RefusedFor, IsOfLexer, IsOfParser, IsUnread, IsTooMany, Stops, StopsAt}

-- a refusal of one kind is one of another
pub refused_for : (name : List ℕ) (P Q : Refusal → Type 0) (stop : Stop) → ((refusal : Refusal) → P refusal → Q refusal) → RefusedFor name P stop → RefusedFor name Q stop
refused_for name P Q Fault turn is = absurd is
refused_for name P Q NoPackage turn is = absurd is
refused_for name P Q (TextLimit other) turn is = absurd is
refused_for name P Q (Refused other refusal) turn is = (is.0, turn refusal is.1)
refused_for name P Q PackageLimit turn is = absurd is
refused_for name P Q NoMemory turn is = tt

-- the refusal of a text's fault
pub of_lexer : (text : List ℕ) (e : LexFault) (refusal : Refusal) → ((e ≡ lexer.NoMemory) ⊎ IsFault text e) → lexer_refusal e ≡ Some refusal → IsOfLexer text refusal
of_lexer text e refusal (inl memory) is = absurd (let no : None ≡ Some refusal = sym (ap lexer_refusal memory) ∙ is in cc)
of_lexer text e refusal (inr fault) is = (e, fault, is)

-- the refusal of tokens' fault
pub of_parser : (tokens : List Token) (last : Place) (e : SyntaxFault) (refusal : Refusal) → ((e ≡ parser.NoMemory) ⊎ IsSyntaxFault (rule plain_file) true tokens last e) → parser_refusal e ≡ Some refusal
    → IsOfParser tokens last refusal
of_parser tokens last e refusal (inl memory) is = absurd (let no : None ≡ Some refusal = sym (ap parser_refusal memory) ∙ is in cc)
of_parser tokens last e refusal (inr fault) is = (e, fault, is)

pub lexer_refuses : (text : List ℕ) (refusal : Refusal) → IsOfLexer text refusal → IsRefused text refusal
lexer_refuses text refusal is = by_lexer is.1 is.2

pub parser_refuses : (text : List ℕ) (tokens : List Token) (last : Place) → AreTokens text tokens last → (refusal : Refusal) → IsOfParser tokens last refusal → IsRefused text refusal
parser_refuses text tokens last are refusal is = by_parser are is.1 is.2

-- names put at the end, and one more
pub added-push : (names more : List (List ℕ)) (name : List ℕ) → added names (more ++ name ∷ []) ≡ added_one (added names more) name
added-push names [] name = refl
added-push names (n ∷ more) name = added-push (added_one names n) more name

added_one-longer : (names : List (List ℕ)) (name : List ℕ) → length names ≤ length (added_one names name)
added_one-longer names name = by_test (list_any (λ other. is_same other name) names)
  where
    by_test : (b : Bool) → length names ≤ length (if b then names else names ++ name ∷ [])
    by_test true = omega arith
    by_test false = simp length-append (omega arith)

-- a list only grows
pub added-longer : (names more : List (List ℕ)) → length names ≤ length (added names more)
added-longer names [] = omega arith
added-longer names (n ∷ more) = (let one = added_one-longer names n in let rest = added-longer (added_one names n) more in omega arith)

pub added-append : (names more others : List (List ℕ)) → added names (more ++ others) ≡ added (added names more) others
added-append names [] others = refl
added-append names (n ∷ more) others = added-append (added_one names n) more others

-- why the walk ends at a package that it comes to
pub unread_stops : (texts : Texts) (first name : List ℕ) (stop : Stop) → Reaches texts first name → IsUnread texts name stop → Stops texts first stop
unread_stops texts first name Fault reached is = tt
unread_stops texts first name NoPackage reached is = absurd is
unread_stops texts first name (TextLimit other) reached is = (subst (Reaches texts first) (sym is.0) reached, subst (HasLong texts) (sym is.0) is.1)
unread_stops texts first name (Refused other refusal) reached is = (subst (Reaches texts first) (sym is.0) reached, subst (λ (n : List ℕ). HasRefused texts n refusal) (sym is.0) is.1)
unread_stops texts first name PackageLimit reached is = absurd is
unread_stops texts first name NoMemory reached is = tt

pub crowd_stops : (texts : Texts) (first name : List ℕ) (tree : PackageTree) (stop : Stop) (reached : Reaches texts first name) → HasTree texts name tree
    → IsTooMany (length (added reached.names (withs_of tree))) stop → Stops texts first stop
crowd_stops texts first name tree Fault reached has is = absurd is
crowd_stops texts first name tree NoPackage reached has is = absurd is
crowd_stops texts first name tree (TextLimit other) reached has is = absurd is
crowd_stops texts first name tree (Refused other refusal) reached has is = absurd is
crowd_stops texts first name tree PackageLimit reached has is = record { name = name; reached = reached; tree = tree; has = has; more = is }
crowd_stops texts first name tree NoMemory reached has is = tt

-- the walk has come to package `k` of the list
abbrev pub reaches_at : (texts : Texts) (first name : List ℕ) (k : ℕ) (names : List (List ℕ)) → Walked texts first k names → slice_get names k ≡ Some name → Reaches texts first name
reaches_at texts first name k names walked there = record { at = k; names = names; walked = walked; there = there }

-- one name more is put at the end
pub added-next : (start : List (List ℕ)) (more : List Named) (k : ℕ) (n : Named) (names after : List (List ℕ)) → k < length more → n ≡ get_or more k n
    → names ≡ added start (map (λ m. m.word) (take k more)) → after ≡ added_one names n.word → after ≡ added start (map (λ m. m.word) (take (k + 1) more))
added-next start more k n names after within is so_far one =
    let word : Named → List ℕ = λ m. m.word in
    let next : take (k + 1) more ≡ take k more ++ n ∷ [] = take_more more k n within ∙ ap (λ m. take k more ++ m ∷ []) (sym is) in
    let words : map word (take (k + 1) more) ≡ map word (take k more) ++ n.word ∷ [] = ap (map word) next ∙ map-append word (take k more) (n ∷ []) in
    one ∙ ap (λ l. added_one l n.word) so_far ∙ sym (ap (added start) words ∙ added-push start (map word (take k more)) n.word)

-- with all names put at the end the list is no shorter
pub added-front : (start : List (List ℕ)) (more : List Named) (k : ℕ) → length (added start (map (λ m. m.word) (take k more))) ≤ length (added start (map (λ m. m.word) more))
added-front start more k =
    let word : Named → List ℕ = λ m. m.word in
    let parts : more ≡ take k more ++ drop k more = sym (take-append-drop k more) in
    let words : map word more ≡ map word (take k more) ++ map word (drop k more) = ap (map word) parts ∙ map-append word (take k more) (drop k more) in
    let lists : added start (map word more) ≡ added (added start (map word (take k more))) (map word (drop k more)) = ap (added start) words ∙ added-append start (map word (take k more)) (map word (drop k more)) in
    let longer = added-longer (added start (map word (take k more))) (map word (drop k more)) in
    rw lists longer

pub too_many_more : (n m : ℕ) (stop : Stop) → n ≤ m → IsTooMany n stop → IsTooMany m stop
too_many_more n m Fault more is = absurd is
too_many_more n m NoPackage more is = absurd is
too_many_more n m (TextLimit name) more is = absurd is
too_many_more n m (Refused name refusal) more is = absurd is
too_many_more n m PackageLimit more is = omega arith
too_many_more n m NoMemory more is = tt

-- neither a refusal nor too many names is a fault of the shelf
pub too_many_no_fault : (n : ℕ) (stop : Stop) → IsTooMany n stop → stop ≡ Fault → ⊥
too_many_no_fault n stop is fault = subst (IsTooMany n) fault is

pub refused_no_fault : (name : List ℕ) (P : Refusal → Type 0) (stop : Stop) → RefusedFor name P stop → stop ≡ Fault → ⊥
refused_no_fault name P stop is fault = subst (RefusedFor name P) fault is

-- what was fetched under the name in lower case, the shelf has of the package
pub text_by : (told : Option Texts) (name lower text : List ℕ) (fetched : Fetched) → lower ≡ str_to_ascii_lowercase name → fetched ≡ Text → IsWithin fetched text
    → IfSome told (λ texts. Finds (text_of lower texts) fetched text) → IfSome told (λ texts. HasText texts name text)
text_by None name lower text fetched same is within found = tt
text_by (Some texts) name lower text fetched same is within found =
    let here : text_of lower texts ≡ Some text = rw is at found in
    let few : length text ≤ text_limit = rw is at within in
    record { found = rw same at here; within = few }

pub none_by : (told : Option Texts) (name lower text : List ℕ) (fetched : Fetched) → lower ≡ str_to_ascii_lowercase name → fetched ≡ Absent
    → IfSome told (λ texts. Finds (text_of lower texts) fetched text) → IfSome told (λ texts. HasNone texts name)
none_by None name lower text fetched same is found = tt
none_by (Some texts) name lower text fetched same is found = (let here : text_of lower texts ≡ None = rw is at found in rw same at here)

long_of : (found : Option (List ℕ)) → IsSomeAnd found (λ text. text_limit < length text) → (text : List ℕ) × (found ≡ Some text) × (text_limit < length text)
long_of None long = absurd long
long_of (Some text) long = (text, refl, long)

pub long_by : (told : Option Texts) (name lower text : List ℕ) (fetched : Fetched) (stop : Stop) → lower ≡ str_to_ascii_lowercase name → fetched ≡ TooLong → stop ≡ TextLimit name
    → IfSome told (λ texts. Finds (text_of lower texts) fetched text) → IfSome told (λ texts. IsUnread texts name stop)
long_by None name lower text fetched stop same is told_long found = tt
long_by (Some texts) name lower text fetched stop same is told_long found =
    let here : IsSomeAnd (text_of lower texts) (λ t. text_limit < length t) = rw is at found in
    let long : HasLong texts name = rw same at (long_of (text_of lower texts) here) in
    subst (IsUnread texts name) (sym told_long) (refl, long)

-- what was read of the text, the shelf has of the package
pub read_by : (told : Option Texts) (name text : List ℕ) (tree : PackageTree) → IfSome told (λ texts. HasText texts name text) → IsTree text tree → IfSome told (λ texts. HasTree texts name tree)
read_by None name text tree has is = tt
read_by (Some texts) name text tree has is = record { text = text; has = has; is = is }

unread_in : (texts : Texts) (name text : List ℕ) (stop : Stop) → HasText texts name text → RefusedFor name (IsRefused text) stop → IsUnread texts name stop
unread_in texts name text Fault has is = absurd is
unread_in texts name text NoPackage has is = absurd is
unread_in texts name text (TextLimit other) has is = absurd is
unread_in texts name text (Refused other refusal) has is = (is.0, record { text = text; has = has; is = is.1 })
unread_in texts name text PackageLimit has is = absurd is
unread_in texts name text NoMemory has is = tt

pub unread_by : (told : Option Texts) (name text : List ℕ) (stop : Stop) → IfSome told (λ texts. HasText texts name text) → RefusedFor name (IsRefused text) stop → IfSome told (λ texts. IsUnread texts name stop)
unread_by None name text stop has is = tt
unread_by (Some texts) name text stop has is = unread_in texts name text stop has is

-- a step of the walk, and where it ends
pub step_passes : (told : Option Texts) (k : ℕ) (names : List (List ℕ)) → 0 < k → IfSome told (λ texts. (name : List ℕ) × (slice_get names k ≡ Some name) × HasNone texts name) → IfSome told (λ texts. IsStep texts k names names)
step_passes None k names after none = tt
step_passes (Some texts) k names after none = passes after none.1 none.2

pub step_reads : (told : Option Texts) (k : ℕ) (names more : List (List ℕ)) (name : List ℕ) (tree : PackageTree) → slice_get names k ≡ Some name → IfSome told (λ texts. HasTree texts name tree)
    → more ≡ added names (withs_of tree) → length more ≤ package_limit → IfSome told (λ texts. IsStep texts k names more)
step_reads None k names more name tree there has is few = tt
step_reads (Some texts) k names more name tree there has is few =
    let fewer : length (added names (withs_of tree)) ≤ package_limit = rw is at few in
    subst (λ (l : List (List ℕ)). IsStep texts k names l) (sym is) (reads there has fewer)

pub stops_unread : (told : Option Texts) (k : ℕ) (names : List (List ℕ)) (name : List ℕ) (stop : Stop) → slice_get names k ≡ Some name → IfSome told (λ texts. IsUnread texts name stop)
    → IfSome told (λ texts. StopsAt texts k names stop)
stops_unread None k names name stop there is = tt
stops_unread (Some texts) k names name stop there is = λ first walked. unread_stops texts first name stop (reaches_at texts first name k names walked there) is

pub stops_crowded : (told : Option Texts) (k : ℕ) (names : List (List ℕ)) (name : List ℕ) (tree : PackageTree) (stop : Stop) → slice_get names k ≡ Some name → IfSome told (λ texts. HasTree texts name tree)
    → IsTooMany (length (added names (withs_of tree))) stop → IfSome told (λ texts. StopsAt texts k names stop)
stops_crowded None k names name tree stop there has is = tt
stops_crowded (Some texts) k names name tree stop there has is = λ first walked. crowd_stops texts first name tree stop (reaches_at texts first name k names walked there) has is

-- what was walked from a list of the first package and the names that it gives
abbrev pub IsWalkedFrom : Texts → List (List ℕ) → ℕ → List (List ℕ) → Type 0
IsWalkedFrom texts start k names = (first : List ℕ) → Walked texts first 1 start → Walked texts first k names

-- what was fetched from a list of names on
abbrev pub AreFetchedFrom : Texts → List (List ℕ) → List (List ℕ) → List PackageTree → List (List ℕ) → List (List ℕ) → List PackageTree → Type 0
AreFetchedFrom texts start one trees names asked more = AreFetched texts start one trees → AreFetched texts names asked more

pub same_on : (told now later : Option Texts) → SameTexts told now → SameTexts now later → SameTexts told later
same_on None now later same same' = tt
same_on (Some texts) now later same same' = rw same at same'

pub walks_on : (told now : Option Texts) (start names more : List (List ℕ)) (k : ℕ) → SameTexts told now → IfSome told (λ texts. IsWalkedFrom texts start k names) → IfSome now (λ texts. IsStep texts k names more)
    → IfSome told (λ texts. IsWalkedFrom texts start (k + 1) more)
walks_on None now start names more k same walked step = tt
walks_on (Some texts) now start names more k same walked step =
    let here : IsStep texts k names more = rw same at step in
    λ first from. subst (λ n. Walked texts first n more) (sym (add-one k)) (goes_on (walked first from) here)

pub walk_stops : (told now : Option Texts) (start names : List (List ℕ)) (k : ℕ) (stop : Stop) → SameTexts told now → IfSome told (λ texts. IsWalkedFrom texts start k names) → IfSome now (λ texts. StopsAt texts k names stop)
    → IfSome told (λ texts. StopsAt texts 1 start stop)
walk_stops None now start names k stop same walked stops = tt
walk_stops (Some texts) now start names k stop same walked stops =
    let here : StopsAt texts k names stop = rw same at stops in
    λ first from. here first (walked first from)

pub walk_closes : (told : Option Texts) (start names one asked : List (List ℕ)) (trees more : List PackageTree) (k : ℕ) → k ≡ length names → IfSome told (λ texts. IsWalkedFrom texts start k names)
    → IfSome told (λ texts. AreFetchedFrom texts (take 1 start) one trees (take k names) asked more)
    → IfSome told (λ texts. (first : List ℕ) → Walked texts first 1 start → AreFetched texts (take 1 start) one trees → IsClosure texts first asked more)
walk_closes None start names one asked trees more k all walked fetched = tt
walk_closes (Some texts) start names one asked trees more k all walked fetched =
    let whole : take k names ≡ names = ap (λ n. take n names) all ∙ take-length names in
    λ first from has. record {
      names = names;
      walked = subst (λ n. Walked texts first n names) all (walked first from);
      fetched = subst (λ (l : List (List ℕ)). AreFetched texts l asked more) whole (fetched has);
    }

-- the first package
pub begun : (told : Option Texts) (name : List ℕ) (one names : List (List ℕ)) (tree : PackageTree) → one ≡ name ∷ [] → IfSome told (λ texts. HasTree texts name tree)
    → names ≡ added one (withs_of tree) → length names ≤ package_limit → IfSome told (λ texts. Walked texts name 1 names)
begun None name one names tree is has list few = tt
begun (Some texts) name one names tree is has list few =
    let here : names ≡ added (name ∷ []) (withs_of tree) = rw is at list in
    let fewer : length (added (name ∷ []) (withs_of tree)) ≤ package_limit = rw here at few in
    subst (λ (l : List (List ℕ)). Walked texts name 1 l) (sym here) (goes_on begins (reads refl has fewer))

pub begin_unread : (told : Option Texts) (name : List ℕ) (stop : Stop) → IfSome told (λ texts. IsUnread texts name stop) → IfSome told (λ texts. Stops texts name stop)
begin_unread None name stop is = tt
begin_unread (Some texts) name stop is = unread_stops texts name name stop (reaches_at texts name name 0 (name ∷ []) begins refl) is

pub begin_crowded : (told : Option Texts) (name : List ℕ) (one : List (List ℕ)) (tree : PackageTree) (stop : Stop) → one ≡ name ∷ [] → IfSome told (λ texts. HasTree texts name tree)
    → IsTooMany (length (added one (withs_of tree))) stop → IfSome told (λ texts. Stops texts name stop)
begin_crowded None name one tree stop is has many = tt
begin_crowded (Some texts) name one tree stop is has many =
    crowd_stops texts name name tree stop (reaches_at texts name name 0 (name ∷ []) begins refl) has (rw is at many)

-- the walk from the first package on
pub closes : (told now : Option Texts) (name : List ℕ) (names one asked : List (List ℕ)) (trees more : List PackageTree) → SameTexts told now → IfSome told (λ texts. Walked texts name 1 names)
    → IfSome told (λ texts. AreFetched texts (take 1 names) one trees)
    → IfSome now (λ texts. (first : List ℕ) → Walked texts first 1 names → AreFetched texts (take 1 names) one trees → IsClosure texts first asked more) → IfSome told (λ texts. IsClosure texts name asked more)
closes None now name names one asked trees more same walked has closed = tt
closes (Some texts) now name names one asked trees more same walked has closed =
    let here : (first : List ℕ) → Walked texts first 1 names → AreFetched texts (take 1 names) one trees → IsClosure texts first asked more = rw same at closed in
    here name walked has

pub close_stops : (told now : Option Texts) (name : List ℕ) (names : List (List ℕ)) (stop : Stop) → SameTexts told now → IfSome told (λ texts. Walked texts name 1 names)
    → IfSome now (λ texts. StopsAt texts 1 names stop) → IfSome told (λ texts. Stops texts name stop)
close_stops None now name names stop same walked stops = tt
close_stops (Some texts) now name names stop same walked stops =
    let here : StopsAt texts 1 names stop = rw same at stops in
    here name walked

-- ---- packages that were fetched

added_one-front : (names : List (List ℕ)) (name : List ℕ) (k : ℕ) → k ≤ length names → take k (added_one names name) ≡ take k names
added_one-front names name k within = by_test (list_any (λ other. is_same other name) names)
  where
    by_test : (b : Bool) → take k (if b then names else names ++ name ∷ []) ≡ take k names
    by_test true = refl
    by_test false = take-append-le k names (name ∷ []) within

-- names that are put at the end leave the front as it was
added-kept : (names more : List (List ℕ)) (k : ℕ) → k ≤ length names → take k (added names more) ≡ take k names
added-kept names [] k within = refl
added-kept names (n ∷ more) k within =
    let longer = added_one-longer names n in
    added-kept (added_one names n) more k (omega arith) ∙ added_one-front names n k within

-- the front with one name more
front_next : (names : List (List ℕ)) (k : ℕ) (name : List ℕ) → slice_get names k ≡ Some name → take (k + 1) names ≡ take k names ++ name ∷ []
front_next names k name there =
    let within = slice_get_within names k name there in
    take_more names k name within ∙ ap (λ n. take k names ++ n ∷ []) (get_or_from_slice_get names k name name there)

pub fetches_none : (told : Option Texts) (names asked : List (List ℕ)) (trees : List PackageTree) (k : ℕ) → IfSome told (λ texts. (name : List ℕ) × (slice_get names k ≡ Some name) × HasNone texts name)
    → IfSome told (λ texts. AreFetched texts (take k names) asked trees → AreFetched texts (take (k + 1) names) asked trees)
fetches_none None names asked trees k none = tt
fetches_none (Some texts) names asked trees k none = λ has. subst (λ (l : List (List ℕ)). AreFetched texts l asked trees) (sym (front_next names k none.0 none.1)) (one_absent none.0 has none.2)

pub fetches_one : (told : Option Texts) (names after asked asked' : List (List ℕ)) (trees trees' : List PackageTree) (k : ℕ) (name : List ℕ) (tree : PackageTree) → slice_get names k ≡ Some name
    → IfSome told (λ texts. HasTree texts name tree) → after ≡ added names (withs_of tree) → asked' ≡ asked ++ name ∷ [] → trees' ≡ trees ++ tree ∷ []
    → IfSome told (λ texts. AreFetched texts (take k names) asked trees → AreFetched texts (take (k + 1) after) asked' trees')
fetches_one None names after asked asked' trees trees' k name tree there has list one other = tt
fetches_one (Some texts) names after asked asked' trees trees' k name tree there has list one other =
    let within = slice_get_within names k name there in
    let kept : take (k + 1) after ≡ take k names ++ name ∷ [] = ap (take (k + 1)) list ∙ added-kept names (withs_of tree) (k + 1) (omega arith) ∙ front_next names k name there in
    λ before. rw (kept, one, other) (one_fetched before has)

pub fetches_first : (told : Option Texts) (names asked : List (List ℕ)) (trees : List PackageTree) (name : List ℕ) (tree : PackageTree) → IfSome told (λ texts. HasTree texts name tree)
    → names ≡ added (name ∷ []) (withs_of tree) → asked ≡ name ∷ [] → trees ≡ tree ∷ [] → IfSome told (λ texts. AreFetched texts (take 1 names) asked trees)
fetches_first None names asked trees name tree has list one other = tt
fetches_first (Some texts) names asked trees name tree has list one other =
    let kept : take 1 names ≡ name ∷ [] = ap (take 1) list ∙ added-kept (name ∷ []) (withs_of tree) 1 (omega arith) in
    rw (kept, one, other) (one_fetched no_packages has)

pub fetches_on : (told now : Option Texts) (start one names asked more asked' : List (List ℕ)) (trees trees' trees'' : List PackageTree) → SameTexts told now
    → IfSome told (λ texts. AreFetchedFrom texts start one trees names asked trees') → IfSome now (λ texts. AreFetched texts names asked trees' → AreFetched texts more asked' trees'')
    → IfSome told (λ texts. AreFetchedFrom texts start one trees more asked' trees'')
fetches_on None now start one names asked more asked' trees trees' trees'' same before next = tt
fetches_on (Some texts) now start one names asked more asked' trees trees' trees'' same before next =
    let here : AreFetched texts names asked trees' → AreFetched texts more asked' trees'' = rw same at next in
    λ has. here (before has)

-- one package more, with its name
pub paired_more : (asked asked' : List (List ℕ)) (trees trees' : List PackageTree) (name : List ℕ) (tree : PackageTree) → asked' ≡ asked ++ name ∷ [] → trees' ≡ trees ++ tree ∷ [] → length asked ≡ length trees → ArePaired asked' trees'
paired_more asked asked' trees trees' name tree one other same = rw (one, other) (record { some = simp length-append (omega arith); same = simp length-append (omega arith) })

pub paired_first : (asked : List (List ℕ)) (trees : List PackageTree) (name : List ℕ) (tree : PackageTree) → asked ≡ name ∷ [] → trees ≡ tree ∷ [] → ArePaired asked trees
paired_first asked trees name tree one other = rw (one, other) (record { some = omega arith; same = refl })
