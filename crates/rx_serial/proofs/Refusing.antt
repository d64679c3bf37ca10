-- Where the walk with a valuation is refused, it goes no further, and for one reason.
use Rattle.std.proofs.Common.{◌≡◌, ℕ, ◌*◌, ◌≤◌, true, false, List, [], ◌∷◌, ◌++◌, length, Option, Some, None, IsSome, ◌⊎◌, inl, inr, refl, sym, ap, ◌∙◌, subst, arith}
use Rattle.std.specs.Prelude.{pos, slice_get}
use Rattle.std.specs.List.{AllByRecursion}
use Rattle.rx_types.specs.Domain.{Domain, IsNumberOf}
use Rattle.rx_types.specs.Environment.{Placed, Environment, in_message, IsAmong}
use Rattle.rx_graph.specs.declared.message.Node.{Node}
use Rattle.rx_graph.specs.Cycles.{IsLink}
use Rattle.rx_graph.specs.Fits.{Content, Number, Bytes, Assigned, content_of, IsContent, Agrees}
use Rattle.rx_graph.specs.Graph.{Arrow, Graph, type_of}
use Rattle.rx_graph.specs.Paths.{first_of, HasNumber, IsTrue, LiesWithin, Places, IsPartial, Ends, Exclusive}
use Rattle.rx_graph.specs.Stuck.{field_of}
use Rattle.rx_graph.proofs.Unique.{at_field, at_null, some_same}
use Rattle.rx_context.specs.Steps.{Takes}
use Rattle.rx_serial.specs.declared.fault.UnfitReason.{UnfitReason}
use Rattle.rx_serial.specs.declared.fault.UnfitReason.TheVariants.{Condition, Missing, Value, Size, Short, Overlay}
use Rattle.rx_serial.specs.declared.fault.WriteFault.{WriteFault}
use Rattle.rx_serial.specs.declared.fault.WriteFault.TheVariants.{NoRoom, Unsatisfied, Unused}
use Rattle.rx_serial.specs.Unfit.{IsUnused, Fails, Refuses}

none_some : (c : Content) → None ≡ Some c → ⊥
none_some c e = cc

not_some : false ≡ true → ⊥
not_some e = cc

number_same : (n k : ℕ) → Some (Number n) ≡ Some (Number k) → n ≡ k
number_same n k e = cc

number_bytes : (n : ℕ) (b : List ℕ) → Some (Number n) ≡ Some (Bytes b) → ⊥
number_bytes n b e = cc

bytes_same : (a b : List ℕ) → Some (Bytes a) ≡ Some (Bytes b) → a ≡ b
bytes_same a b e = cc

type_same : (a b : Domain) → Some a ≡ Some b → a ≡ b
type_same a b e = cc

type_none : (t : Domain) → None ≡ Some t → ⊥
type_none t e = cc

given_none : (o : Option Content) → o ≡ None → IsSome o → ⊥
given_none None e h = not_some h
given_none (Some c) e h = none_some c (sym e)

pub all_at : (P : Placed → Type 0) (xs : List Placed) (p : Placed) (more : List Placed) → AllByRecursion P (xs ++ p ∷ more) → P p
all_at P [] p more h = h.0
all_at P (x ∷ xs) p more h = all_at P xs p more h.1

-- a link is tried, and does not lead on to its field
pub record IsUnmet (domains : List Domain) (m : Graph) (values : List Assigned) (e : Environment) (at : Node) (why : WriteFault) : Type 0 where
  pub field : ℕ
  pub link : Arrow
  pub reason : UnfitReason
  pub is : why ≡ Unsatisfied (Some field) reason
  pub takes : Takes m e at field link
  pub fails : Fails domains m values reason e link field

-- no link is taken
pub record IsNowhere (m : Graph) (e : Environment) (at : Node) (why : WriteFault) : Type 0 where
  pub is : why ≡ Unsatisfied (field_of at) Condition
  pub none : (i : ℕ) (link : Arrow) → IsLink m i link → link.source ≡ at → IsTrue link e → ⊥

-- the path ends, and this is the first field that is unused
pub record IsLeft (domains : List Domain) (m : Graph) (values : List Assigned) (e : Environment) (at : Node) (why : WriteFault) : Type 0 where
  pub field : ℕ
  pub is : why ≡ Unused field
  pub index : ℕ
  pub ends : Ends domains m e.total e.fields at index
  pub unused : IsUnused values e.fields field
  pub least : (g : ℕ) → IsUnused values e.fields g → field ≤ g

module _ (domains : List Domain) (m : Graph) (values : List Assigned) where
  abbrev pub IsTold : Environment → Node → WriteFault → Type 0
  IsTold e at why = IsNowhere m e at why ⊎ IsUnmet domains m values e at why ⊎ IsLeft domains m values e at why

  unmet : (e : Environment) (at : Node) (field : Option ℕ) (reason : UnfitReason) (f : ℕ) (link : Arrow) → field ≡ Some f → Takes m e at f link → Fails domains m values reason e link f → IsTold e at (Unsatisfied field reason)
  unmet e at field reason f link is t fails = inr (inl (record { field = f; link = link; reason = reason; is = ap (λ x. Unsatisfied x reason) is; takes = t; fails = fails }))

  pub told : (e : Environment) (at : Node) (why : WriteFault) → Refuses domains m values e at why → IsTold e at why
  told e at (NoRoom needed had) r = absurd r
  told e at (Unsatisfied field Condition) r = inl (record { is = ap (λ x. Unsatisfied x Condition) r.0; none = r.1 })
  told e at (Unsatisfied field Missing) r = unmet e at field Missing r.0 r.1 r.2 r.3 r.4
  told e at (Unsatisfied field Value) r = unmet e at field Value r.0 r.1 r.2 r.3 r.4
  told e at (Unsatisfied field Size) r = unmet e at field Size r.0 r.1 r.2 r.3 r.4
  told e at (Unsatisfied field Short) r = unmet e at field Short r.0 r.1 r.2 r.3 r.4
  told e at (Unsatisfied field Overlay) r = unmet e at field Overlay r.0 r.1 r.2 r.3 r.4
  told e at (Unused f) r = inr (inr (record { field = f; is = refl; index = r.0.0; ends = r.0.1; unused = r.1; least = r.2 }))

  -- ---- a field to which a path goes on was not refused

  abbrev pub Given : Placed → Type 0
  Given p = IsContent (type_of domains m p.field) p (content_of p.field values)

  missing : (o : Option Domain) (p : Placed) (given : Option Content) → IsContent o p given → given ≡ None → ⊥
  missing (Some t) p given h e = none_some (Number p.number) (sym e ∙ h)
  missing None p given h e = none_some (Bytes h.0) (sym e ∙ h.1)

  value : (o : Option Domain) (p : Placed) (given : Option Content) → IsContent o p given → HasNumber o p.number → (t : Domain) (n : ℕ) → o ≡ Some t → given ≡ Some (Number n) → IsNumberOf t n
  value (Some s) p given h k t n e g =
      subst (λ x. IsNumberOf x n) (type_same s t e) (subst (λ x. IsNumberOf s x) (number_same p.number n (sym h ∙ g)) k)
  value None p given h k t n e g = absurd (type_none t e)

  size : (o : Option Domain) (p : Placed) (given : Option Content) → IsContent o p given → (bytes : List ℕ) → given ≡ Some (Bytes bytes) → pos (8 * length bytes) ≡ p.size
  size (Some t) p given h bytes g = absurd (number_bytes p.number bytes (sym h ∙ g))
  size None p given h bytes g = ap (λ b. pos (8 * length b)) (bytes_same bytes h.0 (sym g ∙ h.1)) ∙ h.2

  refuted : (reason : UnfitReason) (e : Environment) (link : Arrow) (p : Placed) → Places domains m link e p → Given p → Agrees domains m values e.fields p → Fails domains m values reason e link p.field → ⊥
  refuted Condition e link p h g a f = f
  refuted Missing e link p h g a f = missing (type_of domains m p.field) p (content_of p.field values) g f
  refuted Value e link p h g a f = f.1 (value (type_of domains m p.field) p (content_of p.field values) g h.number)
  refuted Size e link p h g a f = f.2 (λ bytes is. sym (size (type_of domains m p.field) p (content_of p.field values) g bytes is ∙ ap (λ x. x.size) h.place))
  refuted Short e link p h g a f =
      f.3 (subst (λ z. LiesWithin e (first_of link e) z) (ap (λ x. x.size) h.place) (subst (λ z. LiesWithin e z p.size) (ap (λ x. x.first) h.place) h.within))
  refuted Overlay e link p h g a f = f.4 a

  -- ---- one reason

  apart : (r s : UnfitReason) (e : Environment) (link : Arrow) (f : ℕ) → Fails domains m values r e link f → Fails domains m values s e link f → r ≡ s
  apart Condition s e link f h k = absurd h
  apart Missing Condition e link f h k = absurd k
  apart Missing Missing e link f h k = refl
  apart Missing Value e link f h k = absurd (given_none (content_of f values) h k.0)
  apart Missing Size e link f h k = absurd (given_none (content_of f values) h k.0)
  apart Missing Short e link f h k = absurd (given_none (content_of f values) h k.0)
  apart Missing Overlay e link f h k = absurd (given_none (content_of f values) h k.0)
  apart Value Condition e link f h k = absurd k
  apart Value Missing e link f h k = absurd (given_none (content_of f values) k h.0)
  apart Value Value e link f h k = refl
  apart Value Size e link f h k = absurd (h.1 k.1)
  apart Value Short e link f h k = absurd (h.1 k.1)
  apart Value Overlay e link f h k = absurd (h.1 k.1)
  apart Size Condition e link f h k = absurd k
  apart Size Missing e link f h k = absurd (given_none (content_of f values) k h.0)
  apart Size Value e link f h k = absurd (k.1 h.1)
  apart Size Size e link f h k = refl
  apart Size Short e link f h k = absurd (h.2 k.2)
  apart Size Overlay e link f h k = absurd (h.2 k.2)
  apart Short Condition e link f h k = absurd k
  apart Short Missing e link f h k = absurd (given_none (content_of f values) k h.0)
  apart Short Value e link f h k = absurd (k.1 h.1)
  apart Short Size e link f h k = absurd (k.2 h.2)
  apart Short Short e link f h k = refl
  apart Short Overlay e link f h k = absurd (h.3 k.3)
  apart Overlay Condition e link f h k = absurd k
  apart Overlay Missing e link f h k = absurd (given_none (content_of f values) k h.0)
  apart Overlay Value e link f h k = absurd (k.1 h.1)
  apart Overlay Size e link f h k = absurd (k.2 h.2)
  apart Overlay Short e link f h k = absurd (k.3 h.3)
  apart Overlay Overlay e link f h k = refl

  module _ (exclusive : Exclusive domains m) (total : ℕ) (path : List ℕ) (fields : List Placed) (at : Node) (partial : IsPartial domains m total path fields at) where
    same_taken : (i j : ℕ) (a b : Arrow) → IsLink m i a → IsLink m j b → a.source ≡ at → b.source ≡ at → IsTrue a (in_message total fields) → IsTrue b (in_message total fields) → a ≡ b
    same_taken i j a b is js s t x y =
        some_same a b (sym is ∙ ap (λ k. slice_get m.links k) (exclusive total path fields at i j a b partial is js s t x y) ∙ js)

    -- the path goes on with p
    pub goes_on : (i : ℕ) (link : Arrow) (p : Placed) → IsLink m i link → link.source ≡ at → Places domains m link (in_message total fields) p → Given p → Agrees domains m values fields p → (why : WriteFault) → IsTold (in_message total fields) at why → ⊥
    goes_on i link p is source h g a why (inl n) = n.none i link is source h.taken
    goes_on i link p is source h g a why (inr (inl u)) =
        let t = u.takes in
        let same : u.link ≡ link = same_taken t.index i u.link link t.is is t.source source t.taken h.taken in
        let field : u.field ≡ p.field = at_field u.field p.field (sym t.target ∙ ap (λ l. l.target) same ∙ h.target) in
        refuted u.reason (in_message total fields) link p h g a (subst (λ l. Fails domains m values u.reason (in_message total fields) l p.field) same (subst (λ x. Fails domains m values u.reason (in_message total fields) u.link x) field u.fails))
    goes_on i link p is source h g a why (inr (inr l)) =
        let e = l.ends in
        let same : link ≡ e.link = same_taken i l.index link e.link is e.is source e.source h.taken e.taken in
        at_null p.field (sym h.target ∙ ap (λ x. x.target) same ∙ e.target)

    -- the path ends here
    takes_null : (i : ℕ) (e : Ends domains m total fields at i) (f : ℕ) (link : Arrow) → Takes m (in_message total fields) at f link → ⊥
    takes_null i e f link t =
        let same : link ≡ e.link = same_taken t.index i link e.link t.is e.is t.source e.source t.taken e.taken in
        at_null f (sym t.target ∙ ap (λ l. l.target) same ∙ e.target)

    pub ends : (i : ℕ) → Ends domains m total fields at i → ((f : ℕ) → IsSome (content_of f values) → IsAmong f fields) → (why : WriteFault) → IsTold (in_message total fields) at why → ⊥
    ends i e named why (inl n) = n.none i e.link e.is e.source e.taken
    ends i e named why (inr (inl u)) = takes_null i e u.field u.link u.takes
    ends i e named why (inr (inr l)) = l.unused.1 (named l.field l.unused.0)

    pub one_told : (why other : WriteFault) → IsTold (in_message total fields) at why → IsTold (in_message total fields) at other → why ≡ other
    one_told why other (inl n) (inl k) = n.is ∙ sym k.is
    one_told why other (inl n) (inr (inl u)) = absurd (n.none u.takes.index u.link u.takes.is u.takes.source u.takes.taken)
    one_told why other (inl n) (inr (inr l)) = absurd (n.none l.index l.ends.link l.ends.is l.ends.source l.ends.taken)
    one_told why other (inr (inl u)) (inl n) = absurd (n.none u.takes.index u.link u.takes.is u.takes.source u.takes.taken)
    one_told why other (inr (inl u)) (inr (inl v)) =
        let t = u.takes in
        let w = v.takes in
        let same : v.link ≡ u.link = same_taken w.index t.index v.link u.link w.is t.is w.source t.source w.taken t.taken in
        let field : v.field ≡ u.field = at_field v.field u.field (sym w.target ∙ ap (λ l. l.target) same ∙ t.target) in
        let fails = subst (λ l. Fails domains m values v.reason (in_message total fields) l u.field) same (subst (λ x. Fails domains m values v.reason (in_message total fields) v.link x) field v.fails) in
        let reason : u.reason ≡ v.reason = apart u.reason v.reason (in_message total fields) u.link u.field u.fails fails in
        u.is ∙ ap (λ r. Unsatisfied (Some u.field) r) reason ∙ ap (λ x. Unsatisfied (Some x) v.reason) (sym field) ∙ sym v.is
    one_told why other (inr (inl u)) (inr (inr l)) = absurd (takes_null l.index l.ends u.field u.link u.takes)
    one_told why other (inr (inr l)) (inl n) = absurd (n.none l.index l.ends.link l.ends.is l.ends.source l.ends.taken)
    one_told why other (inr (inr l)) (inr (inl u)) = absurd (takes_null l.index l.ends u.field u.link u.takes)
    one_told why other (inr (inr l)) (inr (inr k)) =
        let up = l.least k.field k.unused in
        let down = k.least l.field l.unused in
        let same : l.field ≡ k.field = omega (arith, up, down) in
        l.is ∙ ap (λ f. Unused f) same ∙ sym k.is
