-- What comes out of elaboration is elaborated, and keeps the path limit.
--   message_elaborated, nothing_elaborated    a message, and a null message, within the limit or not
--   packages_ready                            what packages make, whose names stand
--   elaboration_is_sound                      all messages of a specification
use Rattle.std.proofs.Common.{◌≡◌, ◌∙◌, ap, subst, ℕ, ◌+◌, ◌<◌, Bool, false, List, [], ◌∷◌, ◌++◌, length, Some, Result, Ok, Err}
use Rattle.std.specs.Prelude.{slice_get, IfOk}
use Rattle.std.specs.List.{AllByRecursion}
use Rattle.std.proofs.lemmas.Option.{none-some}
use Rattle.rx_syntax.specs.declared.tree.Named.{Named}
use Rattle.rx_syntax.specs.declared.tree.DefTree.{DefTree}
use Rattle.rx_syntax.specs.declared.tree.DefTree.TheVariants as def
use Rattle.rx_syntax.specs.declared.tree.DeclKind.{DeclKind}
use Rattle.rx_syntax.specs.declared.tree.DeclKind.TheVariants as decl
use Rattle.rx_syntax.specs.declared.tree.DeclTree.{DeclTree}
use Rattle.rx_syntax.specs.declared.tree.HeaderTree.{HeaderTree}
use Rattle.rx_syntax.specs.declared.tree.MessageTree.{MessageTree}
use Rattle.rx_syntax.specs.declared.tree.PackageTree.{PackageTree}
use Rattle.rx_syntax.specs.declared.rule.Rule.TheVariants as rule
use Rattle.rx_types.specs.Domain.{Domain, EachPair}
use Rattle.rx_types.specs.Names.{IsSameName}
use Rattle.rx_graph.specs.declared.message.Field.{Field}
use Rattle.rx_graph.specs.Elaborated.{IsElaborated, IsElaboratedField}
use Rattle.rx_graph.specs.Graph.{Graph, Specified, spec_of, kind_of, limit_of}
use Rattle.rx_graph.specs.declared.spec.Spec.{Spec}
use Rattle.rx_forms.specs.PathLimit.{MayBeChecked, keeps_limit}
use Rattle.rx_forms.proofs.Asked.{limit_kept}
use Rattle.rx_judge.specs.Meaning.{Meaning, ◌>>=◌, all_stand_from}
use Rattle.rx_judge.specs.Scalar.{spelled}
use Rattle.rx_judge.proofs.Meanings.{bind_ok, ok_same}
use Rattle.rx_elab.specs.Firsts.{layings_of, overlay_in}
use Rattle.rx_elab.specs.Stand.{Known, fresh, message_stands, definition_stands, kind_stands, declaration_stands, built_in}
use Rattle.rx_elab.specs.Through.{through}
use Rattle.rx_elab.specs.Types.{Types, built_in_types}
use Rattle.rx_elab.specs.declared.stand.Declared.{Declared}
use Rattle.rx_elab.specs.declared.stand.Seen.{Seen}
use Rattle.rx_spec.specs.Elaboration.{elaborated, through_from, package_stands_in, package_types_in, package_messages_in}
use Rattle.rx_spec.specs.Laws.{IsSoundSpec, ElaborationIsSound}
use Rattle.rx_spec.specs.Limit.{domains_known, within_limit}
use Rattle.rx_spec.specs.Messages.{scope_in, message_made, message_of, Body, graph_named, null_body, null_made, null_message, with_message, definition_meant, kind_meant, declaration_meant, package_messages}
use Rattle.rx_spec.specs.Ready.{MakesElaborated, KindMakes, DeclarationMakes, PackageMakes, AreReadyOnceTyped}
use Rattle.rx_spec.specs.declared.fault.ElabFault.{ElabFault}
use Rattle.rx_spec.proofs.Domains.{domains_of, Lists, types_list, declarations_stand, in_package_ok}
use Rattle.rx_spec.proofs.FieldNames.{field_names_apart}
use Rattle.rx_spec.proofs.Holding.{fields_stand, fields_elaborated}
use Rattle.rx_spec.proofs.Lying.{overlay_below}
use Rattle.rx_spec.proofs.Nothing.{null_links}
use Rattle.rx_spec.proofs.Parting.{made}
use Rattle.rx_spec.proofs.Standing.{LinksStand}
use Rattle.rx_spec.proofs.Steps.{all_push, taken}
use Rattle.rx_spec.proofs.Targets.{links_stand}

-- ---- messages

abbrev AreApart : Graph → Type 0
AreApart g = EachPair (λ a b. IsSameName a.name b.name → ⊥) g.fields

abbrev AreFields : List Domain → Graph → Type 0
AreFields domains g = (f : ℕ) (x : Field) → slice_get g.fields f ≡ Some x → IsElaboratedField domains g x

together : (domains : List Domain) (g : Graph) → AreApart g → AreFields domains g → LinksStand domains g → IsElaborated domains g
together domains g n f l =
    record {
      few_fields = l.few_fields;
      few_links = l.few_links;
      few_paths = l.few_paths;
      names = n;
      fields = f;
      links = l.links;
      begins = l.begins;
      goes_on = l.goes_on;
      acyclic = l.acyclic;
    }

pub message_elaborated : (t : Types) (h : HeaderTree) (name : Named) (m : MessageTree) (g : Graph) (s : Seen) → Lists t → message_made t h name m ≡ Ok g → message_stands m ≡ Ok s → IsElaborated (domains_of t.scalars) g
message_elaborated t h name m g s l e k =
    let a = made t h name m g e in
    let scope = scope_in t h a.held m in
    let layings = layings_of scope m a.ways in
    let names = field_names_apart m s a.held layings g.fields k a.fields in
    let fields = fields_stand t h a.held layings m g l a.shaped.holds a.fields in
    let below : (j y : ℕ) → overlay_in layings j ≡ Some y → y < length g.fields = λ j y o. overlay_below (kind_of (domains_of t.scalars) g) (limit_of (domains_of t.scalars) g) (length g.fields) scope fields.scope m a.ways j y o in
    let each = fields_elaborated t h a.held layings m g l a.shaped.holds a.fields below g.links tt a.sized a.low in
    together (domains_of t.scalars) g names each (links_stand (domains_of t.scalars) t h name m g a fields names)

no_fields : (h : HeaderTree) (name : Named) (b : Body) (low : Bool) (g : Graph) → graph_named h name b low ≡ Ok g → b.fields ≡ g.fields
no_fields h name b low g e =
    let p = bind_ok (spelled h.name) (λ (p : List ℕ). spelled name >>= (λ w. Ok (record { «package» = p; name = w; fields = b.fields; links = b.links; low_order = low }))) g e in
    let w = bind_ok (spelled name) (λ (w : List ℕ). Ok (record { «package» = p.0; name = w; fields = b.fields; links = b.links; low_order = low })) g p.2 in
    ap (λ (x : Graph). x.fields) (ok_same (record { «package» = p.0; name = w.0; fields = b.fields; links = b.links; low_order = low }) g w.2)

pub nothing_elaborated : (domains : List Domain) (h : HeaderTree) (name : Named) (g : Graph) → graph_named h name (null_body name) false ≡ Ok g → IsElaborated domains g
nothing_elaborated domains h name g e =
    let none : [] ≡ g.fields = no_fields h name (null_body name) false g e in
    let names = subst (λ (xs : List Field). EachPair (λ a b. IsSameName a.name b.name → ⊥) xs) none tt in
    together domains g names (λ f x s. absurd (none-some x (ap (λ (xs : List Field). slice_get xs f) none ∙ s))) (null_links domains h name g e)

-- ---- what is made is elaborated

module _ (t : Types) (known : Lists t) where
  definition_makes : (h : HeaderTree) (name : Named) (d : DefTree) (k k' : Known) → definition_stands k d ≡ Ok k' → MakesElaborated t h name d
  definition_makes h name (def.Message m) k k' s =
      let seen = bind_ok (message_stands m) (λ (x : Seen). Ok k) k' s in
      λ g e. message_elaborated t h name m g seen.0 known e seen.1
  definition_makes h name other k k' s = tt

  kind_makes : (h : HeaderTree) (d : DeclKind) (k k' : Declared) → kind_stands k d ≡ Ok k' → KindMakes t h d
  kind_makes h (decl.Refine r) k k' s = tt
  kind_makes h (decl.Defined name d) k k' s =
      let types = bind_ok (fresh k.types name) (λ (types : Known). definition_stands k.literals d >>= (λ literals. Ok (record { types = types; literals = literals }))) k' s in
      let literals = bind_ok (definition_stands k.literals d) (λ (literals : Known). Ok (record { types = types.0; literals = literals })) k' types.2 in
      definition_makes h name d k.literals literals.0 literals.1

  declarations_make : (h : HeaderTree) (ds : List DeclTree) (k k' : Declared) → through declaration_stands k ds ≡ Ok k' → AllByRecursion (λ d. DeclarationMakes t h d) ds
  declarations_make h [] k k' s = tt
  declarations_make h (d ∷ ds) k k' s =
      let stands = bind_ok (declaration_stands k d) (λ (x : Declared). through declaration_stands x ds) k' s in
      (kind_makes h d.kind k stands.0 stands.1, declarations_make h ds stands.0 k' stands.2)

  packages_make : (asked : List (List ℕ)) (n : ℕ) (ps : List PackageTree) (u : Unit {0}) → all_stand_from (package_stands_in asked) n ps ≡ Ok u → AllByRecursion (λ p. PackageMakes t p) ps
  packages_make asked n [] u s = tt
  packages_make asked n (p ∷ ps) u s =
      let stands = bind_ok (package_stands_in asked n p) (λ (v : Unit {0}). all_stand_from (package_stands_in asked) (n + 1) ps) u s in
      let declared = declarations_stand asked n p stands.0 (in_package_ok n _ stands.0 stands.1) in
      (declarations_make p.header p.decls.items built_in declared.0 declared.1, packages_make asked (n + 1) ps u stands.2)

-- packages whose names stand are ready
pub packages_ready : (asked : List (List ℕ)) (ps : List PackageTree) (u : Unit {0}) → all_stand_from (package_stands_in asked) 0 ps ≡ Ok u → AreReadyOnceTyped ps
packages_ready asked ps u e t f =
    let known = types_list asked ps u t e f in
    record { boolean = known.first; messages = packages_make t known asked 0 ps u e }

-- ---- what is not refused may be checked

module _ (t : Types) where
  abbrev IsGood : Graph → Type 0
  IsGood g = MayBeChecked (domains_known t) g

  abbrev AreGood : List Graph → Type 0
  AreGood gs = AllByRecursion (λ g. IsGood g) gs

  within_good : (name : Named) (g g' : Graph) → IsElaborated (domains_known t) g → within_limit t name g ≡ Ok g' → IsGood g'
  unfolding within_limit
  within_good name g g' l e =
      let kept = taken (keeps_limit (domains_known t) g) (Ok g) g' (record { rule = rule.GraphLimit; place = name.place; word = Some name.word }) e in
      let good : IsGood g = record { elaborated = l; limit = limit_kept (domains_known t) g l kept.0 } in
      subst (λ (x : Graph). IsGood x) (ok_same g g' kept.1) good

  made_good : (name : Named) (m : Meaning Graph) (g : Graph) → ((x : Graph) → m ≡ Ok x → IsElaborated (domains_known t) x) → (m >>= within_limit t name) ≡ Ok g → IsGood g
  made_good name m g f e =
      let one = bind_ok m (within_limit t name) g e in
      within_good name one.0 g (f one.0 one.1) one.2

  with_one : (gs gs' : List Graph) (m : Meaning Graph) → AreGood gs → ((g : Graph) → m ≡ Ok g → IsGood g) → with_message gs m ≡ Ok gs' → AreGood gs'
  with_one gs gs' m a f e =
      let one = bind_ok m (λ (g : Graph). Ok (gs ++ g ∷ [])) gs' e in
      subst (λ (x : List Graph). AreGood x) (ok_same (gs ++ one.0 ∷ []) gs' one.2) (all_push (λ g. IsGood g) gs one.0 a (f one.0 one.1))

  definition_good : (h : HeaderTree) (gs gs' : List Graph) (name : Named) (d : DefTree) → AreGood gs → MakesElaborated t h name d → definition_meant t h gs name d ≡ Ok gs' → AreGood gs'
  definition_good h gs gs' name (def.Message m) a l e = with_one gs gs' (message_of t h name m) a (λ g k. made_good name (message_made t h name m) g l k) e
  definition_good h gs gs' name def.NullMessage a l e =
      with_one gs gs' (null_message t h name) a (λ g k. made_good name (null_made h name) g (λ x n. nothing_elaborated (domains_known t) h name x n) k) e
  definition_good h gs gs' name other a l e = subst (λ (x : List Graph). AreGood x) (ok_same gs gs' e) a

  kind_good : (h : HeaderTree) (gs gs' : List Graph) (d : DeclKind) → AreGood gs → KindMakes t h d → kind_meant t h gs d ≡ Ok gs' → AreGood gs'
  kind_good h gs gs' (decl.Refine r) a l e = subst (λ (x : List Graph). AreGood x) (ok_same gs gs' e) a
  kind_good h gs gs' (decl.Defined name d) a l e = definition_good h gs gs' name d a l e

  declarations_good : (h : HeaderTree) (gs gs' : List Graph) (ds : List DeclTree) → AreGood gs → AllByRecursion (λ d. DeclarationMakes t h d) ds → through (declaration_meant t h) gs ds ≡ Ok gs' → AreGood gs'
  declarations_good h gs gs' [] a l e = subst (λ (x : List Graph). AreGood x) (ok_same gs gs' e) a
  declarations_good h gs gs' (d ∷ ds) a l e =
      let one = bind_ok (declaration_meant t h gs d) (λ (x : List Graph). through (declaration_meant t h) x ds) gs' e in
      declarations_good h one.0 gs' ds (kind_good h gs one.0 d.kind a l.0 one.1) l.1 one.2

  packages_good : (n : ℕ) (gs gs' : List Graph) (ps : List PackageTree) → AreGood gs → AllByRecursion (λ p. PackageMakes t p) ps → through_from (package_messages_in t) n gs ps ≡ Ok gs' → AreGood gs'
  packages_good n gs gs' [] a l e = subst (λ (x : List Graph). AreGood x) (ok_same gs gs' e) a
  packages_good n gs gs' (p ∷ ps) a l e =
      let one = bind_ok (package_messages_in t n gs p) (λ (x : List Graph). through_from (package_messages_in t) (n + 1) x ps) gs' e in
      let here = declarations_good p.header gs one.0 p.decls.items a l.0 (in_package_ok n (package_messages t gs p) one.0 one.1) in
      packages_good (n + 1) one.0 gs' ps here l.1 one.2

-- ---- specifications

pub elaboration_is_sound : ElaborationIsSound
elaboration_is_sound asked ps s e =
    let u = bind_ok (all_stand_from (package_stands_in asked) 0 ps) (λ (v : Unit {0}). through_from package_types_in 0 built_in_types ps >>= (λ t. through_from (package_messages_in t) 0 [] ps >>= (λ gs. Ok (record { scalars = t.scalars; messages = gs; refinements = [] })))) s e in
    let t = bind_ok (through_from package_types_in 0 built_in_types ps) (λ (t : Types). through_from (package_messages_in t) 0 [] ps >>= (λ gs. Ok (record { scalars = t.scalars; messages = gs; refinements = [] }))) s u.2 in
    let gs = bind_ok (through_from (package_messages_in t.0) 0 [] ps) (λ (gs : List Graph). Ok (record { scalars = t.0.scalars; messages = gs; refinements = [] })) s t.2 in
    let ready = packages_ready asked ps u.0 u.1 t.0 t.1 in
    let good = packages_good t.0 0 [] gs.0 ps tt ready.messages gs.1 in
    let have : IsSoundSpec (record { scalars = t.0.scalars; messages = gs.0; refinements = [] }) = record { boolean = ready.boolean; messages = good } in
    subst (λ (x : Specified). IsSoundSpec x) (ok_same (record { scalars = t.0.scalars; messages = gs.0; refinements = [] }) s gs.2) have

-- the same of what the code answers
pub sound_if : (asked : List (List ℕ)) (ps : List PackageTree) (r : Result Spec ElabFault) → IfOk r (λ s. elaborated asked ps ≡ Ok (spec_of s)) → IfOk r (λ s. IsSoundSpec (spec_of s))
sound_if asked ps (Ok s) h = elaboration_is_sound asked ps (spec_of s) h
sound_if asked ps (Err e) h = tt
