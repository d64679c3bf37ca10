-- The point of a partial path carries its numbers and quotients.
use Rattle.std.proofs.Common.{◌≡◌, refl, sym, ap, subst, ◌∙◌, ℕ, ◌+◌, arith, List, [], ◌∷◌, ◌++◌, length, get_or, ℤ, pos, Option, Some, None, append-nil}
use Rattle.rx_types.specs.Tree.{Tree}
use Rattle.rx_types.specs.Domain.{Domain}
use Rattle.rx_types.specs.Environment.{Environment, Placed, in_message}
use Rattle.rx_graph.specs.declared.message.Node.{Node}
use Rattle.rx_graph.specs.declared.message.Node.TheVariants.{At}
use Rattle.rx_graph.specs.Graph.{Arrow, Graph, type_of}
use Rattle.rx_graph.specs.Paths.{Leads, placed_by}
use Rattle.rx_forms.specs.Normal.{divisions_in}
use Rattle.rx_forms.specs.Divisions.{quotients}
use Rattle.rx_forms.specs.Points.{Solves, SolvesAny, quotients_any, number_if}
use Rattle.rx_forms.specs.Steps
use Rattle.rx_forms.specs.Steps.{Step, target_field, link_then, size_aspect, scalars_in, divisions_in_any, past}
use Rattle.rx_forms.proofs.Carries
use Rattle.rx_forms.specs.Points
use Rattle.rx_forms.specs.Placing.{ArePlaced, quotients_at}
use Rattle.rx_forms.proofs.Extension.{quotients_length, solved_at, at_end, left_first, right_first, two}

pub any_length : (x : Option Tree) (e : Environment) → length (quotients_any x e) ≡ divisions_in_any x
any_length None e = refl
any_length (Some x) e = quotients_length x e

pub if_count : (type : Option Domain) (n : ℕ) → length (number_if type n) ≡ scalars_in type
if_count (Some t) n = refl
if_count None n = refl

pub number_at : (type : Option Domain) (t : Domain) (p front more rest : List ℤ) (n s : ℕ) → type ≡ Some t → p ≡ front ++ ((number_if type n ++ more) ++ rest) → length front ≡ s → get_or p s (pos 0) ≡ pos n
number_at (Some u) t p front more rest n s e h l = ap (λ (zs : List ℤ). get_or zs s (pos 0)) h ∙ at_end front (more ++ rest) (pos n) s l
number_at None t p front more rest n s e h l = absurd (cc)

pub solved_in : (x : Tree) (e : Environment) (p front rest : List ℤ) (n : ℕ) → p ≡ front ++ (quotients x e ++ rest) → length front ≡ n → Solves p n x e
solved_in x e p front rest n h l = subst (λ zs. Solves zs n x e) (sym h) (solved_at x e front rest n l)

solved_any : (x : Option Tree) (e : Environment) (p front rest : List ℤ) (n : ℕ) → p ≡ front ++ (quotients_any x e ++ rest) → length front ≡ n → SolvesAny p n x e
solved_any None e p front rest n h l = tt
solved_any (Some x) e p front rest n h l = solved_in x e p front rest n h l

module _ (domains : List Domain) (m : Graph) (point : List ℤ) (total : ℕ) where
  pub carried : (before : List Placed) (scalar division : ℕ) (links : List Arrow) (fields : List Placed) → length links ≡ length fields
      → (a r : List ℤ) → point ≡ a ++ (Points.numbers_of domains m fields ++ r) → length a ≡ scalar
      → (b s : List ℤ) → point ≡ b ++ (Points.quotients_along domains m total before links fields ++ s) → length b ≡ division
      → Carries.Carries domains m point total before scalar division links fields
  carried before scalar division [] [] same a r pa la b s pb lb = tt
  carried before scalar division [] (p ∷ fields) same a r pa la b s pb lb = absurd (omega arith)
  carried before scalar division (link ∷ links) [] same a r pa la b s pb lb = absurd (omega arith)
  carried before scalar division (link ∷ links) (p ∷ fields) same a r pa la b s pb lb =
      let e = in_message total before in
      let type = type_of domains m p.field in
      let qc = quotients link.condition e in
      let qf = quotients_any link.first e in
      let qs = quotients_any (size_aspect type link.size) e in
      let more = Points.quotients_along domains m total (before ++ p ∷ []) links fields in
      let numbers = Points.numbers_of domains m fields in
      let l1 : length (b ++ qc) ≡ division + divisions_in link.condition = two b qc division (divisions_in link.condition) lb (quotients_length link.condition e) in
      let l2 : length ((b ++ qc) ++ qf) ≡ division + divisions_in link.condition + divisions_in_any link.first = two (b ++ qc) qf (division + divisions_in link.condition) (divisions_in_any link.first) l1 (any_length link.first e) in
      let l3 : length (((b ++ qc) ++ qf) ++ qs) ≡ division + divisions_in link.condition + divisions_in_any link.first + divisions_in_any (size_aspect type link.size) = two ((b ++ qc) ++ qf) qs (division + divisions_in link.condition + divisions_in_any link.first) (divisions_in_any (size_aspect type link.size)) l2 (any_length (size_aspect type link.size) e) in
      let p1 : point ≡ (b ++ qc) ++ ((qf ++ (qs ++ more)) ++ s) = pb ∙ sym (right_first b qc (qf ++ (qs ++ more)) s) in
      let p2 : point ≡ ((b ++ qc) ++ qf) ++ ((qs ++ more) ++ s) = p1 ∙ sym (right_first (b ++ qc) qf (qs ++ more) s) in
      let p3 : point ≡ (((b ++ qc) ++ qf) ++ qs) ++ (more ++ s) = p2 ∙ sym (right_first ((b ++ qc) ++ qf) qs more s) in (
        record {
          number = λ t is. number_at type t point a numbers r p.number scalar is pa la;
          condition = solved_in link.condition e point b ((qf ++ (qs ++ more)) ++ s) division (pb ∙ sym (left_first b qc (qf ++ (qs ++ more)) s)) lb;
          first = solved_any link.first e point (b ++ qc) ((qs ++ more) ++ s) (division + divisions_in link.condition) (p1 ∙ sym (left_first (b ++ qc) qf (qs ++ more) s)) l1;
          size = solved_any (size_aspect type link.size) e point ((b ++ qc) ++ qf) (more ++ s) (division + divisions_in link.condition + divisions_in_any link.first) (p2 ∙ sym (left_first ((b ++ qc) ++ qf) qs more s)) l2;
        },
        carried (before ++ p ∷ []) (scalar + scalars_in type) (division + divisions_in link.condition + divisions_in_any link.first + divisions_in_any (size_aspect type link.size)) links fields (omega arith)
            (a ++ number_if type p.number) r (pa ∙ sym (right_first a (number_if type p.number) numbers r)) (two a (number_if type p.number) scalar (scalars_in type) la (if_count type p.number))
            (((b ++ qc) ++ qf) ++ qs) s p3 l3,
      )

module _ (domains : List Domain) (m : Graph) (total : ℕ) where
  -- the fields of a partial path are where its links place them
  pub leads_placed : (before : List Placed) (at : Node) (path : List ℕ) (fields : List Placed) (end : Node) → Leads domains m total before at path fields end → ArePlaced domains m total before (Steps.links_on domains m path) fields
  leads_placed before at [] [] end h = tt
  leads_placed before at [] (p ∷ fields) end h = absurd h
  leads_placed before at (i ∷ path) [] end h = absurd h
  leads_placed before at (i ∷ path) (p ∷ fields) end h =
      let link = h.0 in
      let is_f : p.field ≡ target_field link.target = sym (ap (λ (n : Node). target_field n) h.3.target) in
      subst (λ o. ArePlaced domains m total before (link_then o (Steps.links_on domains m path)) (p ∷ fields)) (sym h.1) (
        subst (λ f. p ≡ placed_by domains m link (in_message total before) f p.number) is_f h.3.place,
        h.3.number,
        leads_placed (before ++ p ∷ []) (At p.field) path fields end h.4,
      )

  -- each link places a field
  pub placed_length : (before : List Placed) (links : List Arrow) (fields : List Placed) → ArePlaced domains m total before links fields → length links ≡ length fields
  placed_length before [] [] h = refl
  placed_length before [] (p ∷ fields) h = absurd h
  placed_length before (link ∷ links) [] h = absurd h
  placed_length before (link ∷ links) (p ∷ fields) h = let r = placed_length (before ++ p ∷ []) links fields h.2 in omega arith

  pub placed_numbers : (before : List Placed) (links : List Arrow) (fields : List Placed) → ArePlaced domains m total before links fields → length (Points.numbers_of domains m fields) ≡ Steps.scalars_on domains m links
  placed_numbers before [] [] h = refl
  placed_numbers before [] (p ∷ fields) h = absurd h
  placed_numbers before (link ∷ links) [] h = absurd h
  placed_numbers before (link ∷ links) (p ∷ fields) h =
      two (number_if (type_of domains m p.field) p.number) (Points.numbers_of domains m fields) (scalars_in (type_of domains m p.field)) (Steps.scalars_on domains m links) (if_count (type_of domains m p.field) p.number) (placed_numbers (before ++ p ∷ []) links fields h.2)
      ∙ ap (λ f. scalars_in (type_of domains m f) + Steps.scalars_on domains m links) (ap (λ (q : Placed). q.field) h.0)

  three : (xs ys zs ws : List ℤ) (a b c d k : ℕ) → length xs ≡ a → length ys ≡ b → length zs ≡ c → length ws + (d + a + b + c) ≡ k → length (xs ++ (ys ++ (zs ++ ws))) + d ≡ k
  three xs ys zs ws a b c d k p q r h =
      let l1 = two zs ws c (length ws) r refl in
      let l2 = two ys (zs ++ ws) b (c + length ws) q l1 in
      let l3 = two xs (ys ++ (zs ++ ws)) a (b + (c + length ws)) p l2 in
      omega arith

  -- there is one quotient for each division
  pub placed_quotients : (before : List Placed) (links : List Arrow) (fields : List Placed) (d : ℕ) → ArePlaced domains m total before links fields
      → length (Points.quotients_along domains m total before links fields) + d ≡ Steps.division_after domains m d links
  placed_quotients before [] [] d h = omega arith
  placed_quotients before [] (p ∷ fields) d h = absurd h
  placed_quotients before (link ∷ links) [] d h = absurd h
  placed_quotients before (link ∷ links) (p ∷ fields) d h =
      let e = in_message total before in
      let next : ℕ → ℕ = λ f. Steps.next_division domains m (record { before = []; scalar = 0; division = d; link = link; field = f }) in
      let aspect = size_aspect (type_of domains m p.field) link.size in
      three (quotients link.condition e) (quotients_any link.first e) (quotients_any aspect e) (Points.quotients_along domains m total (before ++ p ∷ []) links fields)
      (divisions_in link.condition) (divisions_in_any link.first) (divisions_in_any aspect) d (Steps.division_after domains m (next p.field) links)
      (quotients_length link.condition e) (any_length link.first e) (any_length aspect e) (placed_quotients (before ++ p ∷ []) links fields (next p.field) h.2)
      ∙ ap (λ f. Steps.division_after domains m (next f) links) (ap (λ (q : Placed). q.field) h.0)

  -- the length, the numbers and the quotients of placed fields carry them, whatever stands behind
  pub placed_carries : (links : List Arrow) (fields : List Placed) (more : List ℤ) → ArePlaced domains m total [] links fields
      → Carries.Carries domains m (pos total ∷ (Points.numbers_of domains m fields ++ (Points.quotients_along domains m total [] links fields ++ more))) total [] 1 (1 + Steps.scalars_on domains m links) links fields
  placed_carries links fields more h =
      let numbers = Points.numbers_of domains m fields in
      let along = Points.quotients_along domains m total [] links fields in
      carried domains m (pos total ∷ (numbers ++ (along ++ more))) total [] 1 (1 + Steps.scalars_on domains m links) links fields (placed_length [] links fields h)
      (pos total ∷ []) (along ++ more) refl refl
      (pos total ∷ numbers) more refl
      (two (pos total ∷ []) numbers 1 (Steps.scalars_on domains m links) refl (placed_numbers [] links fields h))

module _ (domains : List Domain) (m : Graph) where
  pub links_length : (total : ℕ) (before : List Placed) (at : Node) (path : List ℕ) (fields : List Placed) (end : Node) → Leads domains m total before at path fields end → length (Steps.links_on domains m path) ≡ length fields
  links_length total before at path fields end h = placed_length domains m total before (Steps.links_on domains m path) fields (leads_placed domains m total before at path fields end h)

  pub numbers_length : (total : ℕ) (before : List Placed) (at : Node) (path : List ℕ) (fields : List Placed) (end : Node) → Leads domains m total before at path fields end → length (Points.numbers_of domains m fields) ≡ Steps.scalars_on domains m (Steps.links_on domains m path)
  numbers_length total before at path fields end h = placed_numbers domains m total before (Steps.links_on domains m path) fields (leads_placed domains m total before at path fields end h)

  pub along_length : (total : ℕ) (before : List Placed) (at : Node) (path : List ℕ) (fields : List Placed) (end : Node) (d : ℕ) → Leads domains m total before at path fields end
      → length (Points.quotients_along domains m total before (Steps.links_on domains m path) fields) + d ≡ Steps.division_after domains m d (Steps.links_on domains m path)
  along_length total before at path fields end d h = placed_quotients domains m total before (Steps.links_on domains m path) fields d (leads_placed domains m total before at path fields end h)

  -- the point of a partial path carries it
  pub point_carries : (total : ℕ) (at : Node) (path : List ℕ) (fields : List Placed) (end : Node) → Leads domains m total [] at path fields end
      → Carries.Carries domains m (Points.point_of domains m total (Steps.links_on domains m path) fields) total [] 1 (1 + Steps.scalars_on domains m (Steps.links_on domains m path)) (Steps.links_on domains m path) fields
  point_carries total at path fields end h =
      let links = Steps.links_on domains m path in
      let numbers = Points.numbers_of domains m fields in
      subst (λ qs. Carries.Carries domains m (pos total ∷ (numbers ++ qs)) total [] 1 (1 + Steps.scalars_on domains m links) links fields) (append-nil (Points.quotients_along domains m total [] links fields))
      (placed_carries domains m total links fields [] (leads_placed domains m total [] at path fields end h))

-- ---- links at the end

-- from variable n on, the point has the quotients of the conditions of these links
abbrev pub SolvesEach : List ℤ → ℕ → List Arrow → Environment → Type 0
SolvesEach point n [] e = Unit {0}
SolvesEach point n (link ∷ links) e = Solves point n link.condition e × SolvesEach point (n + divisions_in link.condition) links e

pub each_solved : (links : List Arrow) (e : Environment) (p front rest : List ℤ) (n : ℕ) → p ≡ front ++ (quotients_at e links ++ rest) → length front ≡ n → SolvesEach p n links e
each_solved [] e p front rest n h l = tt
each_solved (link ∷ links) e p front rest n h l =
    let q = quotients link.condition e in
    let qs = quotients_at e links in (
      solved_in link.condition e p front (qs ++ rest) n (h ∙ sym (left_first front q qs rest)) l,
      each_solved links e p (front ++ q) rest (n + divisions_in link.condition) (h ∙ sym (right_first front q qs rest)) (two front q n (divisions_in link.condition) l (quotients_length link.condition e)),
    )

pub each_length : (links : List Arrow) (e : Environment) (n : ℕ) → length (quotients_at e links) + n ≡ past n links
each_length [] e n = omega arith
each_length (link ∷ links) e n =
    let l = two (quotients link.condition e) (quotients_at e links) (divisions_in link.condition) (length (quotients_at e links)) (quotients_length link.condition e) refl in
    let r = each_length links e (n + divisions_in link.condition) in
    plus_three (length (quotients link.condition e ++ quotients_at e links)) (divisions_in link.condition) (length (quotients_at e links)) n (past (n + divisions_in link.condition) links) l r
  where
    plus_three : (x d y n k : ℕ) → x ≡ d + y → y + (n + d) ≡ k → x + n ≡ k
    plus_three x d y n k p q = omega (arith, p, q)
