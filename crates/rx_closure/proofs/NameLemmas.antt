-- The words of a text have the bytes of names, and so have the names that a package gives by `with`.
use Rattle.std.proofs.Common.{◌≡◌, ◌<◌, ℕ, Bool, true, false, ◌&&◌, List, [], ◌∷◌, ◌++◌, refl, sym, subst, arith, Option}
use Rattle.std.specs.Prelude.{All}
use Rattle.std.specs.List.{list_all, AllByRecursion}
use Rattle.std.specs.Str.{IsAscii}
use Rattle.std.proofs.lemmas.Bool.Decides.{nat_tests}
use Rattle.std.proofs.lemmas.List.Elements.{All-nil, All-push}
use Rattle.std.proofs.lemmas.Str.Ascii.{IsAscii-nil, IsAscii-cons}
use Rattle.rx_syntax.specs.declared.token.Place.{Place}
use Rattle.rx_syntax.specs.declared.token.Token.{Token}
use Rattle.rx_syntax.specs.declared.token.TokenKind.{TokenKind}
use Rattle.rx_syntax.specs.declared.tree.Named.{Named}
use Rattle.rx_syntax.specs.declared.tree.HeaderTree.{HeaderTree}
use Rattle.rx_syntax.specs.declared.tree.PackageTree.{PackageTree}
use Rattle.rx_syntax.specs.Bytes.{is_word_byte}
use Rattle.rx_syntax.specs.Text.{IsToken, word, number, mark, IsPiece, a_token, a_blank, tokens_of, place_behind, HasTokens, start, piece, AreTokens}
use Rattle.rx_syntax.proofs.Runs.{all_also}
use Rattle.rx_grammar.specs.Tokens.{word_of}
use Rattle.rx_grammar.specs.Sentence.{Each, none, one_more, IsWith, with_name, IsHeader, header, IsPackage, package_text}
use Rattle.rx_types.specs.Names.{is_name_byte, IsName}

word_is_name : (b : ℕ) → is_word_byte b ≡ true → is_name_byte b ≡ true
word_is_name b is = grind (arith, nat_tests)

-- bytes of words are those of a name
pub name_of_word : (w : List ℕ) → list_all is_word_byte w ≡ true → IsName w
name_of_word w all = all_also is_word_byte is_name_byte word_is_name w all

-- ---- tokens

abbrev IsSpelled : Token → Type 0
IsSpelled t = list_all is_word_byte (word_of t.kind) ≡ true

token_spelled : {run rest : List ℕ} {k : TokenKind} → IsToken run rest k → list_all is_word_byte (word_of k) ≡ true
token_spelled (word begins run name) = run.all
token_spelled (number begins run is) = refl
token_spelled (mark longest comment) = refl

piece_spelled : {run rest : List ℕ} {k : Option TokenKind} (place : Place) → IsPiece run rest k → AllByRecursion IsSpelled (tokens_of place k)
piece_spelled place (a_token t) = (token_spelled t, tt)
piece_spelled place (a_blank b) = tt

both : (xs ys : List Token) → AllByRecursion IsSpelled xs → AllByRecursion IsSpelled ys → AllByRecursion IsSpelled (xs ++ ys)
both [] ys one two = two
both (x ∷ xs) ys one two = (one.0, both xs ys one.1 two)

front : (xs ys : List Token) → AllByRecursion IsSpelled (xs ++ ys) → AllByRecursion IsSpelled xs
front [] ys all = tt
front (x ∷ xs) ys all = (all.0, front xs ys all.1)

back : (xs ys : List Token) → AllByRecursion IsSpelled (xs ++ ys) → AllByRecursion IsSpelled ys
back [] ys all = all
back (x ∷ xs) ys all = back xs ys all.1

tokens_spelled : {text before rest : List ℕ} {tokens : List Token} → HasTokens text before tokens rest → AllByRecursion IsSpelled tokens
tokens_spelled start = tt
tokens_spelled (piece {before = before} {tokens = tokens} {k = k} h p) = both tokens (tokens_of (place_behind before) k) (tokens_spelled h) (piece_spelled (place_behind before) p)

-- ---- trees

with_named : {ys : List Token} {n : Named} → IsWith ys n → AllByRecursion IsSpelled ys → IsName n.word
with_named (with_name {end = end} {xs = xs} {n = n} w named semicolon) all =
    let here : AllByRecursion IsSpelled (named.name ∷ end ∷ []) = subst (λ (l : List Token). AllByRecursion IsSpelled (l ++ end ∷ [])) named.whole all.1 in
    subst (λ (m : Named). IsName m.word) (sym named.named) (name_of_word (word_of named.name.kind) here.0)

each_named : {xs : List Token} {ns : List Named} → Each IsWith xs ns → AllByRecursion IsSpelled xs → All (λ n. IsName n.word) ns
each_named none all = All-nil (λ (n : Named). IsName n.word)
each_named (one_more {xs = xs} {ys = ys} {trees = ns} {tree = n} each one) all =
    All-push (λ (m : Named). IsName m.word) ns n (each_named each (front xs ys all)) (with_named one (back xs ys all))

header_named : {ts : List Token} {a : HeaderTree} → IsHeader ts a → AllByRecursion IsSpelled ts → All (λ n. IsName n.word) a.withs.items
header_named (header {p = p} {is = is} {xs = xs} {ys = ys} each begins named is_token) all = each_named each (front xs (p ∷ (ys ++ is ∷ [])) all)

package_named : {ts : List Token} {a : PackageTree} → IsPackage ts a → AllByRecursion IsSpelled ts → All (λ n. IsName n.word) a.header.withs.items
package_named (package_text {e = e} {end = end} {xs = xs} {ys = ys} {zs = zs} head decls e_token named end_token) all =
    header_named head (front xs (ys ++ (e ∷ (zs ++ end ∷ []))) all)

-- the names that the package of a text gives
pub withs_named : (text : List ℕ) (tokens : List Token) (last : Place) (tree : PackageTree) → AreTokens text tokens last → IsPackage tokens tree → All (λ n. IsName n.word) tree.header.withs.items
withs_named text tokens last tree are is = package_named is (tokens_spelled are.cut)

-- ---- names are ASCII

name_byte_small : (b : ℕ) → is_name_byte b ≡ true → b < 128
name_byte_small b is = grind (arith, nat_tests)

pub name_ascii : (bytes : List ℕ) → IsName bytes → IsAscii bytes
name_ascii [] is = IsAscii-nil
name_ascii (b ∷ bs) is = (let parts = split (is_name_byte b) (list_all is_name_byte bs) is in IsAscii-cons b bs (name_byte_small b parts.0) (name_ascii bs parts.1))
  where
    split : (p q : Bool) → (p && q) ≡ true → (p ≡ true) × (q ≡ true)
    split true q h = (refl, h)
    split false q h = absurd (let no : false ≡ true = h in cc)
