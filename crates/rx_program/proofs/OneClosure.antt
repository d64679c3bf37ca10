-- A package has one closure: the walk has one list, and of the packages in it the same are fetched, with trees that are the same.
use Rattle.std.proofs.Common.{◌≡◌, ℕ, List, [], ◌∷◌, ◌++◌, refl, sym, ap, ◌∙◌, subst}
use Rattle.rx_io.specs.Shelf.{Texts}
use Rattle.rx_syntax.specs.declared.tree.PackageTree.{PackageTree}
use Rattle.rx_trees.specs.Alike.{AreSame, IsSamePackage}
use Rattle.rx_trees.specs.Alike as same
use Rattle.rx_trees.specs.Laws.{OneTree}
use Rattle.rx_spec.specs.Elaboration.{elaborated}
use Rattle.rx_meaning.specs.Laws.{OneMeaning}
use Rattle.rx_closure.specs.Closure.{HasNone, HasTree, AreFetched, no_packages, one_absent, one_fetched, IsClosure}
use Rattle.rx_program.specs.Stage.{of_packages}
use Rattle.rx_program.specs.Answers.{Request}
use Rattle.rx_program.proofs.OneText.{no_tree, tree_same}
use Rattle.rx_program.proofs.OneWalk.{list_same}
use Rattle.rx_program.proofs.OneStage.{packages_same}

-- the same names, and trees that are the same
record AreAlike (asked others : List (List ℕ)) (ps qs : List PackageTree) : Type 0 where
  names : asked ≡ others
  trees : AreSame IsSamePackage ps qs

-- one more on both sides
same_behind : {ps qs : List PackageTree} {p q : PackageTree} → AreSame IsSamePackage ps qs → IsSamePackage p q → AreSame IsSamePackage (ps ++ p ∷ []) (qs ++ q ∷ [])
same_behind same.none last = same.next last same.none
same_behind (same.next first more) last = same.next first (same_behind more last)

no_item : (n : List ℕ) (ns : List (List ℕ)) → [] ≡ n ∷ ns → ⊥
no_item n ns e = cc

first_same : (n o : List ℕ) (ns os : List (List ℕ)) → n ∷ ns ≡ o ∷ os → n ≡ o
first_same n o ns os e = cc

rest_same : (n o : List ℕ) (ns os : List (List ℕ)) → n ∷ ns ≡ o ∷ os → ns ≡ os
rest_same n o ns os e = cc

not_empty : (names : List (List ℕ)) (name : List ℕ) → [] ≡ names ++ name ∷ [] → ⊥
not_empty [] name e = no_item name [] e
not_empty (n ∷ names) name e = no_item n (names ++ name ∷ []) e

-- lists that are the same begin and end the same
record EndsSame (names others : List (List ℕ)) (name other : List ℕ) : Type 0 where
  front : names ≡ others
  last : name ≡ other

ends_same : (names others : List (List ℕ)) (name other : List ℕ) → names ++ name ∷ [] ≡ others ++ other ∷ [] → EndsSame names others name other
ends_same [] [] name other e = record { front = refl; last = first_same name other [] [] e }
ends_same [] (o ∷ others) name other e = absurd (not_empty others other (rest_same name o [] (others ++ other ∷ []) e))
ends_same (n ∷ names) [] name other e = absurd (not_empty names name (sym (rest_same n other (names ++ name ∷ []) [] e)))
ends_same (n ∷ names) (o ∷ others) name other e =
    let rest = ends_same names others name other (rest_same n o (names ++ name ∷ []) (others ++ other ∷ []) e) in
    let first : n ≡ o = first_same n o (names ++ name ∷ []) (others ++ other ∷ []) e in
    record { front = ap (λ (x : List ℕ). x ∷ names) first ∙ ap (λ (l : List (List ℕ)). o ∷ l) rest.front; last = rest.last }

module _ (one_tree : OneTree) where
  fetched_same : {texts : Texts} {names others asked asked' : List (List ℕ)} {ps qs : List PackageTree} → AreFetched texts names asked ps → AreFetched texts others asked' qs → names ≡ others → AreAlike asked asked' ps qs
  fetched_same no_packages no_packages e = record { names = refl; trees = same.none }
  fetched_same no_packages (one_absent {names = others} other w absent) e = absurd (not_empty others other e)
  fetched_same no_packages (one_fetched {names = others} {name = other} w has) e = absurd (not_empty others other e)
  fetched_same (one_absent {names = names} name w absent) no_packages e = absurd (not_empty names name (sym e))
  fetched_same (one_fetched {names = names} {name = name} w has) no_packages e = absurd (not_empty names name (sym e))
  fetched_same (one_absent {names = names} name w absent) (one_absent {names = others} other w' absent') e = fetched_same w w' (ends_same names others name other e).front
  fetched_same {texts = texts} (one_absent {names = names} name w absent) (one_fetched {names = others} {name = other} {tree = tree} w' has) e =
      absurd (no_tree texts other tree (subst (HasNone texts) (ends_same names others name other e).last absent) has)
  fetched_same {texts = texts} (one_fetched {names = names} {name = name} {tree = tree} w has) (one_absent {names = others} other w' absent) e =
      absurd (no_tree texts other tree absent (subst (λ (n : List ℕ). HasTree texts n tree) (ends_same names others name other e).last has))
  fetched_same {texts = texts} (one_fetched {names = names} {asked = asked} {name = name} {tree = tree} w has) (one_fetched {names = others} {asked = asked'} {name = other} {tree = tree'} w' has') e =
      let ends = ends_same names others name other e in
      let rest = fetched_same w w' ends.front in
      record {
        names = ap (λ (l : List (List ℕ)). l ++ name ∷ []) rest.names ∙ ap (λ (n : List ℕ). asked' ++ n ∷ []) ends.last;
        trees = same_behind rest.trees (tree_same one_tree texts other tree tree' (subst (λ (n : List ℕ). HasTree texts n tree) ends.last has) has');
      }

  closure_same : (texts : Texts) (first : List ℕ) (asked others : List (List ℕ)) (ps qs : List PackageTree) → IsClosure texts first asked ps → IsClosure texts first others qs → AreAlike asked others ps qs
  closure_same texts first asked others ps qs one two = fetched_same one.fetched two.fetched (list_same one_tree one.names two.names one.walked two.walked)

-- the packages of two requests: the same names, the same first form that is not served yet, and one meaning
pub record HaveSame (r t : Request) : Type 0 where
  pub asked : r.asked ≡ t.asked
  pub forms : of_packages 0 r.trees ≡ of_packages 0 t.trees
  pub meaning : elaborated r.asked r.trees ≡ elaborated t.asked t.trees

-- two closures of a package have the same
pub closures_same : OneTree → OneMeaning → (texts : Texts) (first : List ℕ) (r t : Request) → IsClosure texts first r.asked r.trees → IsClosure texts first t.asked t.trees → HaveSame r t
closures_same one_tree one_meaning texts first r t one two =
    let alike = closure_same one_tree texts first r.asked t.asked r.trees t.trees one two in
    record {
      asked = alike.names;
      forms = packages_same 0 alike.trees;
      meaning = ap (λ (l : List (List ℕ)). elaborated l r.trees) alike.names ∙ one_meaning t.asked r.trees t.trees alike.trees;
    }
