-- What the shelf has of a package is one thing: no text, one that is too long, one that is refused, or a tree.
use Rattle.std.proofs.Common.{◌≡◌, ℕ, ◌<◌, true, List, length, map, refl, sym, ap, ◌∙◌, subst, arith, Some, None, append-nil, [], ◌∷◌}
use Rattle.rx_io.specs.Shelf.{Texts, text_limit}
use Rattle.rx_syntax.specs.declared.token.Place.{Place}
use Rattle.rx_syntax.specs.declared.token.Token.{Token}
use Rattle.rx_syntax.specs.declared.fault.LexFault.{LexFault}
use Rattle.rx_syntax.specs.declared.tree.Named.{Named}
use Rattle.rx_syntax.specs.declared.tree.PackageTree.{PackageTree}
use Rattle.rx_syntax.proofs.Goes.{one_list, one_fault as one_lexer_fault, no_fault}
use Rattle.rx_grammar.specs.declared.syntax.SyntaxFault.{SyntaxFault}
use Rattle.rx_grammar.specs.Grammar.{Derives, Whole, rule, plain_file, finished}
use Rattle.rx_grammar.specs.Limits.{Fits, no_limits}
use Rattle.rx_grammar.specs.Sentence.{IsPackage}
use Rattle.rx_grammar.specs.Syntax.{IsSyntaxFault, too_deep, stopped}
use Rattle.rx_grammar.proofs.Complete.{package_before}
use Rattle.rx_grammar.proofs.OneFault.{one_fault as one_parser_fault, fits_not_deep}
use Rattle.rx_trees.specs.Alike.{IsSamePackage}
use Rattle.rx_trees.specs.Laws.{OneTree}
use Rattle.rx_syntax.specs.declared.rule.Refusal.{Refusal}
use Rattle.rx_closure.specs.Refusals.{lexer_refusal, parser_refusal}
use Rattle.rx_closure.specs.Closure.{Has, HasNone, HasLong, HasText, IsRefused, by_lexer, by_parser, IsTree, HasRefused, HasTree, withs_of}

-- at most one text is under a name
pub text_same : (texts : Texts) (name text other : List ℕ) → Has texts name text → Has texts name other → text ≡ other
text_same texts name text other has has' = (let both : Some text ≡ Some other = sym has ∙ has' in cc)

-- no text is under a name that has none
no_text : (texts : Texts) (name text : List ℕ) → HasNone texts name → Has texts name text → ⊥
no_text texts name text none has = (let both : Some text ≡ None = sym has ∙ none in cc)

-- a text is not both too long and within the limit
not_long : (texts : Texts) (name text : List ℕ) → HasLong texts name → HasText texts name text → ⊥
not_long texts name text long has =
    let same = text_same texts name long.0 text long.1 has.found in
    let more : text_limit < length text = subst (λ (t : List ℕ). text_limit < length t) same long.2 in
    let within = has.within in
    absurd (omega arith)

-- a refusal is of one fault
refusal_once : (a b : Refusal) (e e' : LexFault) → e ≡ e' → lexer_refusal e ≡ Some a → lexer_refusal e' ≡ Some b → a ≡ b
refusal_once a b e e' same one two = (let both : Some a ≡ Some b = sym one ∙ ap lexer_refusal same ∙ two in cc)

refusal_once' : (a b : Refusal) (e e' : SyntaxFault) → e ≡ e' → parser_refusal e ≡ Some a → parser_refusal e' ≡ Some b → a ≡ b
refusal_once' a b e e' same one two = (let both : Some a ≡ Some b = sym one ∙ ap parser_refusal same ∙ two in cc)

-- tokens with a tree within the limits have no fault
no_parser_fault : (tokens : List Token) (last : Place) (e : SyntaxFault) (tree : PackageTree) → IsSyntaxFault (rule plain_file) true tokens last e → IsPackage tokens tree → Fits no_limits tokens → ⊥
no_parser_fault tokens last e tree (too_deep a) is fits = fits_not_deep (rule plain_file) tokens e a fits
no_parser_fault tokens last e tree (stopped a) is fits = a.none (subst (Derives Whole (rule plain_file ∷ [])) (append-nil tokens) (package_before is finished))

-- a text is refused for one cause
refusal_same : (text : List ℕ) (a b : Refusal) → IsRefused text a → IsRefused text b → a ≡ b
refusal_same text a b (by_lexer {e = e} f r) (by_lexer {e = e'} f' r') = refusal_once a b e e' (one_lexer_fault text e e' f f') r r'
refusal_same text a b (by_lexer {e = e} f r) (by_parser {tokens = tokens} {last = last} are f' r') = absurd (no_fault text tokens last e are f)
refusal_same text a b (by_parser {tokens = tokens} {last = last} are f r) (by_lexer {e = e} f' r') = absurd (no_fault text tokens last e are f')
refusal_same text a b (by_parser {tokens = tokens} {last = last} {e = e} are f r) (by_parser {tokens = tokens'} {last = last'} {e = e'} are' f' r') =
    let same = one_list text tokens tokens' last last' are are' in
    let ends : last ≡ last' = are.finish ∙ sym are'.finish in
    let here = subst (λ (ts : List Token). IsSyntaxFault (rule plain_file) true ts last' e') (sym same) f' in
    let there = subst (λ (p : Place). IsSyntaxFault (rule plain_file) true tokens p e') (sym ends) here in
    refusal_once' a b e e' (one_parser_fault (rule plain_file) true tokens last e e' f there) r r'

-- a text is not both refused and read
not_refused : (text : List ℕ) (a : Refusal) (tree : PackageTree) → IsRefused text a → IsTree text tree → ⊥
not_refused text a tree (by_lexer {e = e} f r) is = no_fault text is.tokens is.last e is.are f
not_refused text a tree (by_parser {tokens = tokens} {last = last} {e = e} are f r) is =
    let same = one_list text tokens is.tokens last is.last are is.are in
    no_parser_fault is.tokens last e tree (subst (λ (ts : List Token). IsSyntaxFault (rule plain_file) true ts last e) same f) is.is is.fits

-- a package with no text has no tree
pub no_tree : (texts : Texts) (name : List ℕ) (tree : PackageTree) → HasNone texts name → HasTree texts name tree → ⊥
no_tree texts name tree none has = no_text texts name has.text none has.has.found

-- two trees of a text are the same
alike : OneTree → (text : List ℕ) (a b : PackageTree) → IsTree text a → IsTree text b → IsSamePackage a b
alike one_tree text a b is is' =
    let same = one_list text is.tokens is'.tokens is.last is'.last is.are is'.are in
    one_tree is.tokens a b is.is (subst (λ (ts : List Token). IsPackage ts b) (sym same) is'.is)

-- two trees of a package are the same
pub tree_same : OneTree → (texts : Texts) (name : List ℕ) (a b : PackageTree) → HasTree texts name a → HasTree texts name b → IsSamePackage a b
tree_same one_tree texts name a b has has' =
    let same = text_same texts name has.text has'.text has.has.found has'.has.found in
    alike one_tree has'.text a b (subst (λ (t : List ℕ). IsTree t a) same has.is) has'.is

-- what the shelf has of a package
pub data Met : Type 0 where
  nothing : Met
  too_long : Met
  refused : Refusal → Met
  read : List (List ℕ) → Place → Met

abbrev pub IsMet : Texts → List ℕ → Met → Type 0
IsMet texts name nothing = HasNone texts name
IsMet texts name too_long = HasLong texts name
IsMet texts name (refused refusal) = HasRefused texts name refusal
IsMet texts name (read withs place) = (tree : PackageTree) × HasTree texts name tree × (withs ≡ withs_of tree) × (place ≡ tree.header.name.place)

pub met_same : OneTree → (texts : Texts) (name : List ℕ) (a b : Met) → IsMet texts name a → IsMet texts name b → a ≡ b
met_same one_tree texts name nothing nothing is is' = refl
met_same one_tree texts name nothing too_long is is' = absurd (no_text texts name is'.0 is is'.1)
met_same one_tree texts name nothing (refused r) is is' = absurd (no_text texts name is'.text is is'.has.found)
met_same one_tree texts name nothing (read withs place) is is' = absurd (no_text texts name is'.1.text is is'.1.has.found)
met_same one_tree texts name too_long nothing is is' = absurd (no_text texts name is.0 is' is.1)
met_same one_tree texts name too_long too_long is is' = refl
met_same one_tree texts name too_long (refused r) is is' = absurd (not_long texts name is'.text is is'.has)
met_same one_tree texts name too_long (read withs place) is is' = absurd (not_long texts name is'.1.text is is'.1.has)
met_same one_tree texts name (refused r) nothing is is' = absurd (no_text texts name is.text is' is.has.found)
met_same one_tree texts name (refused r) too_long is is' = absurd (not_long texts name is.text is' is.has)
met_same one_tree texts name (refused r) (refused r') is is' =
    let same = text_same texts name is.text is'.text is.has.found is'.has.found in
    ap refused (refusal_same is'.text r r' (subst (λ (t : List ℕ). IsRefused t r) same is.is) is'.is)
met_same one_tree texts name (refused r) (read withs place) is is' =
    let same = text_same texts name is.text is'.1.text is.has.found is'.1.has.found in
    absurd (not_refused is'.1.text r is'.0 (subst (λ (t : List ℕ). IsRefused t r) same is.is) is'.1.is)
met_same one_tree texts name (read withs place) nothing is is' = absurd (no_text texts name is.1.text is' is.1.has.found)
met_same one_tree texts name (read withs place) too_long is is' = absurd (not_long texts name is.1.text is' is.1.has)
met_same one_tree texts name (read withs place) (refused r) is is' =
    let same = text_same texts name is'.text is.1.text is'.has.found is.1.has.found in
    absurd (not_refused is.1.text r is.0 (subst (λ (t : List ℕ). IsRefused t r) same is'.is) is.1.is)
met_same one_tree texts name (read withs place) (read others other) is is' =
    let header = (tree_same one_tree texts name is.0 is'.0 is.1 is'.1).header in
    let names : withs_of is.0 ≡ withs_of is'.0 = ap (map (λ (n : Named). n.word)) header.withs in
    let place_is : is.0.header.name.place ≡ is'.0.header.name.place = ap (λ (n : Named). n.place) header.name in
    ap (λ w. read w place) (is.2 ∙ names ∙ sym is'.2) ∙ ap (read others) (is.3 ∙ place_is ∙ sym is'.3)
