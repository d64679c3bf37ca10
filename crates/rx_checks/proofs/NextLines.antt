-- Lines behind the paths to a node, and behind all nodes.
use Rattle.std.proofs.Common.{◌≡◌, refl, sym, ap, subst, ◌∙◌, ℕ, zero, suc, ◌+◌, ◌<◌, ◌≤◌, arith, List, [], ◌∷◌, ◌++◌, length, map, get_or, set, append_assoc, append-nil, inl, inr}
use Rattle.std.specs.Prelude.{◌≢◌, ◌⊎◌}
use Rattle.std.specs.List.{AllByRecursion}
use Rattle.rx_types.specs.Domain.{Domain}
use Rattle.rx_graph.specs.declared.message.Node.{Node}
use Rattle.rx_graph.specs.declared.message.Node.TheVariants.{Start, At, Null}
use Rattle.rx_graph.specs.Cycles.{ArePathsTo}
use Rattle.rx_graph.specs.Elaborated.{IsElaborated, IsSource}
use Rattle.rx_graph.specs.Graph.{Graph}
use Rattle.rx_layout.specs.declared.goal.Goal.{Goal}
use Rattle.rx_layout.specs.Goals.{source, IsGoal}
use Rattle.rx_checks.specs.declared.verdict.Verdict.{Verdict}
use Rattle.rx_checks.specs.declared.report.Line.{Line}
use Rattle.rx_checks.specs.Lines
use Rattle.rx_checks.specs.Lines.{node_at}
use Rattle.rx_checks.specs.Told.{IsNextVerdict}
use Rattle.rx_checks.specs.Verdicts
use Rattle.rx_checks.proofs.Kept.{source_is}

-- ---- places of nodes

same_field : (f g : ℕ) → At f ≡ At g → f ≡ g
same_field f g e = cc

pub same_place : (j k : ℕ) → node_at j ≡ node_at k → j ≡ k
same_place zero zero e = refl
same_place zero (suc k) e = absurd (cc)
same_place (suc j) zero e = absurd (cc)
same_place (suc j) (suc k) e = ap (λ (n : ℕ). suc n) (same_field j k e)

-- a node from which links lead has a place
pub place_of : (domains : List Domain) (m : Graph) (node : Node) → IsSource domains m node → (j : ℕ) × (node_at j ≡ node) × (j < length m.fields + 1)
place_of domains m Start h = (zero, refl, omega arith)
place_of domains m (At f) h = (suc f, refl, omega (arith, h))
place_of domains m Null h = absurd h

less_or_same : (j k : ℕ) → j < k + 1 → (j < k) ⊎ (j ≡ k)
less_or_same zero zero l = inr refl
less_or_same zero (suc k) l = inl (omega arith)
less_or_same (suc j) zero l = absurd (omega (arith, l))
less_or_same (suc j) (suc k) l = elim (less_or_same j k (omega (arith, l))) [ inl a ↦ inl (omega (arith, a)) | inr e ↦ inr (ap (λ (n : ℕ). suc n) e) ]

module _ (domains : List Domain) (m : Graph) where
  pub same_goals : (olds news : List Line) → map (λ line. line.goal) news ≡ map (λ line. line.goal) olds → Lines.AreGoals domains m olds → Lines.AreGoals domains m news
  same_goals [] [] e a = tt
  same_goals [] (new ∷ news) e a = absurd (cc)
  same_goals (old ∷ olds) [] e a = absurd (cc)
  same_goals (old ∷ olds) (new ∷ news) e a =
      (subst (λ (g : Goal). IsGoal domains m g) (sym (heads e)) a.0, same_goals olds news (tails e) a.1)
    where
      heads : map (λ line. line.goal) (new ∷ news) ≡ map (λ line. line.goal) (old ∷ olds) → new.goal ≡ old.goal
      heads e = cc

      tails : map (λ line. line.goal) (new ∷ news) ≡ map (λ line. line.goal) (old ∷ olds) → map (λ line. line.goal) news ≡ map (λ line. line.goal) olds
      tails e = cc

  -- lines that have the goals are about them
  pub goals_of_lines : (goals : List Goal) (lines : List Line) → map (λ line. line.goal) lines ≡ goals → AllByRecursion (λ g. IsGoal domains m g) goals → Lines.AreGoals domains m lines
  goals_of_lines goals [] e a = tt
  goals_of_lines [] (line ∷ lines) e a = absurd (cc)
  goals_of_lines (goal ∷ goals) (line ∷ lines) e a =
      (subst (λ (g : Goal). IsGoal domains m g) (sym (heads e)) a.0, goals_of_lines goals lines (tails e) a.1)
    where
      heads : map (λ line. line.goal) (line ∷ lines) ≡ goal ∷ goals → line.goal ≡ goal
      heads e = cc

      tails : map (λ line. line.goal) (line ∷ lines) ≡ goal ∷ goals → map (λ line. line.goal) lines ≡ goals
      tails e = cc

  module _ (splits : ℕ) where
    abbrev IsVerdict : Goal → List (List ℕ) → Verdict → Type 0
    IsVerdict goal paths v = Verdicts.IsVerdict domains m splits goal paths v

    -- ---- one path behind another

    next_same : (goal : Goal) (v : Verdict) → IsNextVerdict domains m splits goal [] v v
    next_same goal v before h = subst (λ (ps : List (List ℕ)). IsVerdict goal ps v) (sym (append-nil before)) h

    next_then : (goal : Goal) (paths more : List (List ℕ)) (u v w : Verdict) → IsNextVerdict domains m splits goal paths u v → IsNextVerdict domains m splits goal more v w → IsNextVerdict domains m splits goal (paths ++ more) u w
    next_then goal paths more u v w h k before a = subst (λ (ps : List (List ℕ)). IsVerdict goal ps w) (append_assoc before paths more) (k (before ++ paths) (h before a))

    module _ (node : Node) where
      abbrev IsNextLine : List (List ℕ) → Line → Line → Type 0
      IsNextLine paths a b = Lines.IsNextLine domains m splits node paths a b

      abbrev AreNextLines : List (List ℕ) → List Line → List Line → Type 0
      AreNextLines paths xs ys = Lines.AreNextLines domains m splits node paths xs ys

      line_same : (a : Line) → IsNextLine [] a a
      line_same a = record { goal = refl; here = λ s. next_same a.goal a.verdict; elsewhere = λ n. refl }

      line_then : (paths more : List (List ℕ)) (a b c : Line) → IsNextLine paths a b → IsNextLine more b c → IsNextLine (paths ++ more) a c
      line_then paths more a b c h k =
          let same : source b.goal ≡ source a.goal = ap source h.goal in record {
            goal = k.goal ∙ h.goal;
            here = λ s. next_then a.goal paths more a.verdict b.verdict c.verdict (h.here s) (subst (λ (g : Goal). IsNextVerdict domains m splits g more b.verdict c.verdict) h.goal (k.here (same ∙ s)));
            elsewhere = λ n. k.elsewhere (λ s. n (sym same ∙ s)) ∙ h.elsewhere n;
          }

      pub lines_same : (xs : List Line) → AreNextLines [] xs xs
      lines_same [] = tt
      lines_same (a ∷ xs) = (line_same a, lines_same xs)

      pub lines_then : (paths more : List (List ℕ)) (xs ys zs : List Line) → AreNextLines paths xs ys → AreNextLines more ys zs → AreNextLines (paths ++ more) xs zs
      lines_then paths more [] [] [] h k = tt
      lines_then paths more [] [] (c ∷ zs) h k = absurd k
      lines_then paths more [] (b ∷ ys) zs h k = absurd h
      lines_then paths more (a ∷ xs) [] zs h k = absurd h
      lines_then paths more (a ∷ xs) (b ∷ ys) [] h k = absurd k
      lines_then paths more (a ∷ xs) (b ∷ ys) (c ∷ zs) h k = (line_then paths more a b c h.0 k.0, lines_then paths more xs ys zs h.1 k.1)

      pub lines_goals : (paths : List (List ℕ)) (xs ys : List Line) → AreNextLines paths xs ys → map (λ line. line.goal) ys ≡ map (λ line. line.goal) xs
      lines_goals paths [] [] h = refl
      lines_goals paths [] (b ∷ ys) h = absurd h
      lines_goals paths (a ∷ xs) [] h = absurd h
      lines_goals paths (a ∷ xs) (b ∷ ys) h = ap (λ (g : Goal). g ∷ map (λ line. line.goal) ys) h.0.goal ∙ ap (λ (gs : List Goal). a.goal ∷ gs) (lines_goals paths xs ys h.1)

      -- ---- one line after the other

      -- the first n lines are next ones, and the others as they were
      abbrev pub UpTo : List (List ℕ) → ℕ → List Line → List Line → Type 0
      UpTo paths n [] [] = Unit {0}
      UpTo paths n [] (b ∷ ys) = ⊥
      UpTo paths n (a ∷ xs) [] = ⊥
      UpTo paths zero (a ∷ xs) (b ∷ ys) = (b ≡ a) × UpTo paths zero xs ys
      UpTo paths (suc n) (a ∷ xs) (b ∷ ys) = IsNextLine paths a b × UpTo paths n xs ys

      pub up_none : (paths : List (List ℕ)) (xs : List Line) → UpTo paths zero xs xs
      up_none paths [] = tt
      up_none paths (a ∷ xs) = (refl, up_none paths xs)

      up_next : (paths : List (List ℕ)) (i : ℕ) (xs ys : List Line) (d b : Line) → UpTo paths i xs ys → i < length ys → IsNextLine paths (get_or ys i d) b → UpTo paths (suc i) xs (set ys i b)
      up_next paths i [] [] d b h l n = absurd (omega (arith, l))
      up_next paths i [] (y ∷ ys) d b h l n = absurd h
      up_next paths i (a ∷ xs) [] d b h l n = absurd h
      up_next paths zero (a ∷ xs) (y ∷ ys) d b h l n = (subst (λ (z : Line). IsNextLine paths z b) h.0 n, h.1)
      up_next paths (suc i) (a ∷ xs) (y ∷ ys) d b h l n = (h.0, up_next paths i xs ys d b h.1 (omega (arith, l)) n)

      pub up_more : (paths : List (List ℕ)) (i : ℕ) (xs ys : List Line) (d b : Line) → UpTo paths i xs ys → i < length ys → IsNextLine paths (get_or ys i d) b → UpTo paths (i + 1) xs (set ys i b)
      up_more paths i xs ys d b h l n = subst (λ k. UpTo paths k xs (set ys i b)) (omega arith) (up_next paths i xs ys d b h l n)

      pub up_all : (paths : List (List ℕ)) (n : ℕ) (xs ys : List Line) → UpTo paths n xs ys → length ys ≤ n → AreNextLines paths xs ys
      up_all paths n [] [] h l = tt
      up_all paths n [] (b ∷ ys) h l = absurd h
      up_all paths n (a ∷ xs) [] h l = absurd h
      up_all paths zero (a ∷ xs) (b ∷ ys) h l = absurd (omega (arith, l))
      up_all paths (suc n) (a ∷ xs) (b ∷ ys) h l = (h.0, up_all paths n xs ys h.1 (omega (arith, l)))

      -- the line that comes next is about a check
      pub up_goal : (paths : List (List ℕ)) (i : ℕ) (xs ys : List Line) (d : Line) → UpTo paths i xs ys → i < length ys → Lines.AreGoals domains m xs → IsGoal domains m (get_or ys i d).goal
      up_goal paths i [] [] d h l g = absurd (omega (arith, l))
      up_goal paths i [] (b ∷ ys) d h l g = absurd h
      up_goal paths i (a ∷ xs) [] d h l g = absurd h
      up_goal paths zero (a ∷ xs) (b ∷ ys) d h l g = subst (λ (y : Line). IsGoal domains m y.goal) (sym h.0) g.0
      up_goal paths (suc i) (a ∷ xs) (b ∷ ys) d h l g = up_goal paths i xs ys d h.1 (omega (arith, l)) g.1

    -- ---- node by node

    abbrev StandsFor : Goal → Verdict → Type 0
    StandsFor goal v = Verdicts.StandsFor domains m splits goal v

    -- behind the first k nodes: the verdict stands where the goal's source is one of them, else it is the one over no paths
    pub record IsBehind (k : ℕ) (line : Line) : Type 0 where
      pub judged : (j : ℕ) → j < k → node_at j ≡ source line.goal → StandsFor line.goal line.verdict
      pub first : (j : ℕ) → k ≤ j → node_at j ≡ source line.goal → IsVerdict line.goal [] line.verdict

    abbrev pub AreBehind : ℕ → List Line → Type 0
    AreBehind k lines = AllByRecursion (IsBehind k) lines

    pub behind_none : (lines : List Line) → Lines.AreFirst domains m splits lines → AreBehind 0 lines
    behind_none [] h = tt
    behind_none (line ∷ lines) h = (record { judged = λ j l e. absurd (omega (arith, l)); first = λ j l e. h.0 }, behind_none lines h.1)

    stands_here : (node : Node) (paths : List (List ℕ)) (a b : Line) → ArePathsTo m node paths → Lines.IsNextLine domains m splits node paths a b → source a.goal ≡ node → IsVerdict a.goal [] a.verdict → StandsFor b.goal b.verdict
    stands_here node paths a b are next s h =
        subst (λ (g : Goal). StandsFor g b.verdict) (sym next.goal) (paths, subst (λ (n : Node). ArePathsTo m n paths) (sym s) are, next.here s [] h)

    stands_still : (node : Node) (paths : List (List ℕ)) (a b : Line) → Lines.IsNextLine domains m splits node paths a b → source a.goal ≢ node → StandsFor a.goal a.verdict → StandsFor b.goal b.verdict
    stands_still node paths a b next n h =
        subst (λ (g : Goal). StandsFor g b.verdict) (sym next.goal) (subst (λ (v : Verdict). StandsFor a.goal v) (sym (next.elsewhere n)) h)

    first_still : (node : Node) (paths : List (List ℕ)) (a b : Line) → Lines.IsNextLine domains m splits node paths a b → source a.goal ≢ node → IsVerdict a.goal [] a.verdict → IsVerdict b.goal [] b.verdict
    first_still node paths a b next n h =
        subst (λ (g : Goal). IsVerdict g [] b.verdict) (sym next.goal) (subst (λ (v : Verdict). IsVerdict a.goal [] v) (sym (next.elsewhere n)) h)

    judged_next : (k j : ℕ) (paths : List (List ℕ)) (a b : Line) → ArePathsTo m (node_at k) paths → Lines.IsNextLine domains m splits (node_at k) paths a b → IsBehind k a → j < k + 1 → node_at j ≡ source a.goal → (j < k) ⊎ (j ≡ k) → StandsFor b.goal b.verdict
    judged_next k j paths a b are next h l e (inl less) = stands_still (node_at k) paths a b next (λ s. absurd (omega (arith, same_place j k (e ∙ s), less))) (h.judged j less e)
    judged_next k j paths a b are next h l e (inr same) = stands_here (node_at k) paths a b are next (sym e ∙ ap node_at same) (h.first j (omega (arith, same)) e)

    behind_next : (k : ℕ) (paths : List (List ℕ)) (a b : Line) → ArePathsTo m (node_at k) paths → Lines.IsNextLine domains m splits (node_at k) paths a b → IsBehind k a → IsBehind (k + 1) b
    behind_next k paths a b are next h =
        let same : source b.goal ≡ source a.goal = ap source next.goal in record {
          judged = λ j l e. judged_next k j paths a b are next h l (e ∙ same) (less_or_same j k l);
          first = λ j l e. first_still (node_at k) paths a b next (λ s. absurd (omega (arith, same_place j k (e ∙ (same ∙ s)), l))) (h.first j (omega (arith, l)) (e ∙ same));
        }

    pub behind_more : (k : ℕ) (paths : List (List ℕ)) (xs ys : List Line) → ArePathsTo m (node_at k) paths → Lines.AreNextLines domains m splits (node_at k) paths xs ys → AreBehind k xs → AreBehind (k + 1) ys
    behind_more k paths [] [] are next h = tt
    behind_more k paths [] (b ∷ ys) are next h = absurd next
    behind_more k paths (a ∷ xs) [] are next h = absurd next
    behind_more k paths (a ∷ xs) (b ∷ ys) are next h = (behind_next k paths a b are next.0 h.0, behind_more k paths xs ys are next.1 h.1)

    -- behind all nodes each verdict stands
    pub behind_all : IsElaborated domains m → (k : ℕ) → length m.fields + 1 ≤ k → (lines : List Line) → Lines.AreGoals domains m lines → AreBehind k lines → Lines.AllStand domains m splits lines
    behind_all el k le [] g h = tt
    behind_all el k le (line ∷ lines) g h =
        let p = place_of domains m (source line.goal) (source_is domains m el line.goal g.0) in
        (h.0.judged p.0 (omega (arith, p.2, le)) p.1, behind_all el k le lines g.1 h.1)
