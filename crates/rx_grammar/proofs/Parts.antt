-- A part that nothing can go on behind: where its parser fails, no front of the tokens is a sentence.
use Rattle.std.proofs.Common.{◌≡◌, ◌≢◌, ℕ, zero, suc, ◌+◌, ◌-◌, ◌<◌, ◌≤◌, Bool, true, false, ◌||◌, not, List, [], ◌∷◌, ◌++◌, length, take, drop, refl, sym, ap, ◌∙◌, subst, append_assoc, append-nil, length-append, take-append-drop, arith, ◌⊎◌, inl, inr, ⊎_elim}
use Rattle.std.proofs.lemmas.Bool.{false≢true, cases_lt}
use Rattle.std.proofs.Math.Seq.{take-append_seam, drop-append_seam, take-length}
use Rattle.std.specs.List.{list_any}
use Rattle.std.specs.Str.{bytes_eq}
use Rattle.std.proofs.lemmas.Slice.Eq.{bytes_eq-Decides}
use Rattle.rx_syntax.specs.declared.token.Token.{Token}
use Rattle.rx_syntax.specs.declared.token.TokenKind.{TokenKind}
use Rattle.rx_syntax.specs.declared.token.TokenKind.TheVariants as kind
use Rattle.rx_syntax.specs.Marks.{text_of}
use Rattle.rx_grammar.specs.declared.terminal.Terminal.{Terminal}
use Rattle.rx_grammar.specs.declared.terminal.Terminal.TheVariants as terminal
use Rattle.rx_grammar.specs.declared.terminal.Keyword.{Keyword}
use Rattle.rx_grammar.specs.declared.terminal.Keyword.TheVariants as word
use Rattle.rx_grammar.specs.declared.cursor.Limits.{Limits}
use Rattle.rx_grammar.specs.Terminal.{keyword_text, reserved, is_such}
use Rattle.rx_grammar.specs.Grammar.{Symbol, Extent, Whole, Front, Derives, Begins, one, nothing, finished, token, by_rule, in_turn, first, second, absent, present, no_more, one_more}
use Rattle.rx_grammar.specs.First.{after}
use Rattle.rx_grammar.specs.Limits.{Fits, limits_after, limits_behind, exceeds, no_limits}
use Rattle.rx_grammar.specs.declared.fault.Fault.{Fault}
use Rattle.rx_grammar.specs.declared.fault.Fault.TheVariants as fault
use Rattle.rx_grammar.specs.declared.part.Part.{Part}
use Rattle.rx_grammar.specs.declared.part.PartTree.{PartTree}
use Rattle.rx_syntax.specs.declared.tree.ExprTree.{ExprTree}
use Rattle.rx_grammar.specs.Grammar.{rule, expr}
use Rattle.rx_grammar.specs.Sentence.{IsExpr}
use Rattle.rx_grammar.specs.Reads as reads
use Rattle.rx_grammar.specs.Reads.{IsBlocked, Stops, Fails, Read, IsFault}
use Rattle.rx_grammar.specs.Part.{NoFront, NoLonger, IsWithinLimits, start_of, IsPart, IsPartRead, IsPartStop, IsLongestExpr}
use Rattle.rx_grammar.specs.Part as parts
use Rattle.rx_grammar.specs.Part.{IsPartFault}
use Rattle.rx_grammar.specs.Syntax as syntax
use Rattle.rx_grammar.specs.Syntax.{IsTooDeep, place_of, IsToldAt, IsSyntaxFault, IsToldFault, IsFaultAlone}
use Rattle.rx_grammar.specs.declared.part.Part.TheVariants as part
use Rattle.rx_grammar.specs.declared.part.PartTree.TheVariants as tree
use Rattle.rx_grammar.specs.declared.syntax.SyntaxFault.{SyntaxFault}
use Rattle.rx_grammar.specs.declared.syntax.SyntaxFault.TheVariants as told
use Rattle.rx_syntax.specs.declared.token.Place.{Place}
use Rattle.rx_grammar.proofs.Whole.{alone_of, stops_there, not_past, front_is, fault_told}
use Rattle.rx_grammar.proofs.First.{or_cases}
use Rattle.rx_grammar.proofs.OneFault.{fits_at, fits_not_deep, past}
use Rattle.rx_grammar.proofs.Steps.{begins_front, dead_end}
use Rattle.std.proofs.lemmas.List.{take-append-le}

-- a reserved word is a keyword
some_keyword : (w : List ℕ) → list_any (λ r. bytes_eq w r) reserved ≡ true → (k : Keyword) × (bytes_eq w (keyword_text k) ≡ true)
some_keyword w h = ⊎_elim (λ a. (word.And, a)) (λ h1. ⊎_elim (λ a. (word.Begin, a)) (λ h2. ⊎_elim (λ a. (word.End, a)) (λ h3. ⊎_elim (λ a. (word.Exception, a)) (λ h4. ⊎_elim (λ a. (word.For, a)) (λ h5. ⊎_elim (λ a. (word.Generic, a)) (λ h6. ⊎_elim (λ a. (word.Goto, a)) (λ h7. ⊎_elim (λ a. (word.If, a)) (λ h8. ⊎_elim (λ a. (word.Is, a)) (λ h9. ⊎_elim (λ a. (word.Machine, a)) (λ h10. ⊎_elim (λ a. (word.Message, a)) (λ h11. ⊎_elim (λ a. (word.Mod, a)) (λ h12. ⊎_elim (λ a. (word.New, a)) (λ h13. ⊎_elim (λ a. (word.Not, a)) (λ h14. ⊎_elim (λ a. (word.Null, a)) (λ h15. ⊎_elim (λ a. (word.Of, a)) (λ h16. ⊎_elim (λ a. (word.Or, a)) (λ h17. ⊎_elim (λ a. (word.Package, a)) (λ h18. ⊎_elim (λ a. (word.Range, a)) (λ h19. ⊎_elim (λ a. (word.Sequence, a)) (λ h20. ⊎_elim (λ a. (word.Session, a)) (λ h21. ⊎_elim (λ a. (word.State, a)) (λ h22. ⊎_elim (λ a. (word.Then, a)) (λ h23. ⊎_elim (λ a. (word.Transition, a)) (λ h24. ⊎_elim (λ a. (word.Type, a)) (λ h25. ⊎_elim (λ a. (word.Unsigned, a)) (λ h26. ⊎_elim (λ a. (word.Use, a)) (λ h27. ⊎_elim (λ a. (word.With, a)) (λ a. absurd (false≢true a)) (or_cases _ _ h27)) (or_cases _ _ h26)) (or_cases _ _ h25)) (or_cases _ _ h24)) (or_cases _ _ h23)) (or_cases _ _ h22)) (or_cases _ _ h21)) (or_cases _ _ h20)) (or_cases _ _ h19)) (or_cases _ _ h18)) (or_cases _ _ h17)) (or_cases _ _ h16)) (or_cases _ _ h15)) (or_cases _ _ h14)) (or_cases _ _ h13)) (or_cases _ _ h12)) (or_cases _ _ h11)) (or_cases _ _ h10)) (or_cases _ _ h9)) (or_cases _ _ h8)) (or_cases _ _ h7)) (or_cases _ _ h6)) (or_cases _ _ h5)) (or_cases _ _ h4)) (or_cases _ _ h3)) (or_cases _ _ h2)) (or_cases _ _ h1)) (or_cases _ _ h)

-- each token is of some terminal
word_match : (w : List ℕ) (b : Bool) → list_any (λ r. bytes_eq w r) reserved ≡ b → (c : Terminal) × (is_such c (kind.Word w) ≡ true)
word_match w true h = let k = some_keyword w h in (terminal.Keyword k.0, k.1)
word_match w false h = (terminal.Name, ap not h)

kind_match : (k : TokenKind) → (c : Terminal) × (is_such c k ≡ true)
kind_match (kind.Word w) = word_match w _ refl
kind_match (kind.Number n) = (terminal.Number, refl)
kind_match (kind.Mark m) = (terminal.Mark m, (bytes_eq-Decides (text_of m) (text_of m)).1 refl)

-- symbols that are just these tokens
exact : List Token → List Symbol
exact [] = []
exact (t ∷ ts) = one (kind_match t.kind).0 ∷ exact ts

exact_derives : (ts : List Token) → Derives Whole (exact ts) ts
unfolding exact
exact_derives [] = finished
exact_derives (t ∷ ts) = token (kind_match t.kind).1 (exact_derives ts)

compose : {w : Extent} {fs ss : List Symbol} {xs ys : List Token} → Derives Whole fs xs → Derives w ss ys → Derives w (fs ++ ss) (xs ++ ys)
compose finished d = d
compose (token h a) d = token h (compose a d)
compose (by_rule a) d = by_rule (compose a d)
compose (in_turn a) d = in_turn (compose a d)
compose (first a) d = first (compose a d)
compose (second a) d = second (compose a d)
compose (absent a) d = absent (compose a d)
compose (present a) d = present (compose a d)
compose (no_more a) d = no_more (compose a d)
compose (one_more a) d = one_more (compose a d)

take_over : (xs : List Token) (t : Token) (ys : List Token) → take (suc (length xs)) (xs ++ t ∷ ys) ≡ xs ++ t ∷ []
take_over [] t ys = refl
take_over (x ∷ xs) t ys = ap (λ zs. x ∷ zs) (take_over xs t ys)

blocked_whole : (ss : List Symbol) (front stop : List Token) → IsBlocked ss front stop → Derives Whole ss (front ++ stop) → ⊥
blocked_whole ss front [] b x = b (subst (Derives Whole ss) (append-nil front) x)
blocked_whole ss front (t ∷ more) b x = b (subst (Begins ss) (take_over front t more) (begins_front x (suc (length front))))

pub no_front : (s : Symbol) (ts : List Token) (l : Limits) (left : ℕ) → Fails s (after []) ts l left → NoFront s ts
no_front s ts l left r m h d =
    let ys = drop m ts in
    let whole : Derives Whole (s ∷ exact ys) ts = subst (Derives Whole (s ∷ exact ys)) (take-append-drop m ts) (compose d (exact_derives ys)) in
    let st = r.stops (exact ys) (λ k e. absurd (false≢true e)) in
    blocked_whole (s ∷ exact ys) r.front r.stop st.blocked (subst (Derives Whole (s ∷ exact ys)) r.split whole)

-- a front of tokens within the limits
pub fits_take : (l : Limits) (n : ℕ) (ts : List Token) → Fits l ts → Fits l (take n ts)
fits_take l zero ts f = tt
fits_take l (suc n) [] f = tt
fits_take l (suc n) (t ∷ ts) f = (f.0, fits_take (limits_after l t.kind) n ts f.1)

-- a parser's fault, where nothing may stand behind the part
pub part_stop : (s : Symbol) (ts : List Token) (f : Fault) → IsFault s (after []) ts no_limits f → IsPartStop s ts f
part_stop s ts (fault.Expected left) (reads.expected r) = record { alone = alone_of s [] ts (fault.Expected left) (reads.expected r); none = λ l e. no_front s ts no_limits left r }
part_stop s ts (fault.TooDeep left) x = record { alone = alone_of s [] ts (fault.TooDeep left) x; none = λ l e. absurd cc }
part_stop s ts fault.NoMemory x = record { alone = alone_of s [] ts fault.NoMemory x; none = λ l e. absurd cc }

begins_whole : (s : Symbol) (xs : List Token) → Derives Whole (s ∷ []) xs → Begins (s ∷ []) xs
begins_whole s xs e = subst (Begins (s ∷ [])) (take-length xs) (begins_front e (length xs))

-- what was read has no longer front that is a sentence
no_longer : {A : Type 0} {P : List Token → A → Type 0} (s : Symbol) (more : List Terminal) (ts : List Token) (x : A) (rest : List Token) (l : Limits) (r : Read s (after more) P ts no_limits x rest l) → NoLonger s ts (length r.used)
no_longer s more ts x [] l r m h d = let a = ap length r.split in let b = length-append r.used [] in omega arith
no_longer s more ts x (t ∷ rest) l r m h d =
    let st = stops_there s more ts x t rest l r in
    not_past s r.used (t ∷ rest) st.blocked m (subst (λ k. m ≤ k) (ap length r.split) h) (subst (λ xs. Begins (s ∷ []) (take m xs)) r.split (begins_whole s (take m ts) d))

-- where every front with which a sentence begins lies within tokens that fit, no limit is passed
within_front : (s : Symbol) (ts front stop : List Token) → ts ≡ front ++ stop → ((n : ℕ) → n ≤ length (front ++ stop) → Begins (s ∷ []) (take n (front ++ stop)) → n ≤ length front) → Fits no_limits front → IsWithinLimits s ts
within_front s ts front stop split most fits e a =
    let both : a.front ++ a.at ∷ a.rest ≡ front ++ stop = sym a.split ∙ split in
    let there = a.front ++ a.at ∷ [] in
    let whole : there ++ a.rest ≡ front ++ stop = append_assoc a.front (a.at ∷ []) a.rest ∙ both in
    let same : take (length there) (front ++ stop) ≡ there = ap (take (length there)) (sym whole) ∙ take-append_seam there a.rest in
    let sizes = ap length whole in
    let x = length-append there a.rest in
    let y = length-append a.front (a.at ∷ []) in
    let long = most (length there) (omega arith) (subst (Begins (s ∷ [])) (sym same) a.begins) in
    past a.front a.at a.rest front stop both a.exceeds fits (omega arith)

most_read : {A : Type 0} {P : List Token → A → Type 0} (s : Symbol) (more : List Terminal) (ts : List Token) (x : A) (rest : List Token) (l : Limits) (r : Read s (after more) P ts no_limits x rest l) → (n : ℕ) → n ≤ length (r.used ++ rest) → Begins (s ∷ []) (take n (r.used ++ rest)) → n ≤ length r.used
most_read s more ts x [] l r n h b = let a = length-append r.used [] in omega arith
most_read s more ts x (t ∷ rest) l r n h b = let st = stops_there s more ts x t rest l r in not_past s r.used (t ∷ rest) st.blocked n h b

within_read : {A : Type 0} {P : List Token → A → Type 0} (s : Symbol) (more : List Terminal) (ts : List Token) (x : A) (rest : List Token) (l : Limits) → Read s (after more) P ts no_limits x rest l → IsWithinLimits s ts
within_read s more ts x rest l r = within_front s ts r.used rest r.split (most_read s more ts x rest l r) r.fits

within_stop : (s : Symbol) (ts : List Token) (left : ℕ) → IsFaultAlone s ts (fault.Expected left) → IsWithinLimits s ts
within_stop s ts left (syntax.expected front stop k l r h) = within_front s ts front stop k (not_past s front stop r.blocked) h

used_is : {A : Type 0} {P : List Token → A → Type 0} {s : Symbol} {more : List Terminal} {ts : List Token} {x : A} {rest : List Token} {l : Limits} (r : Read s (after more) P ts no_limits x rest l) → take (length r.used) ts ≡ r.used
used_is {rest = rest} r = ap (take (length r.used)) r.split ∙ take-append_seam r.used rest

used_len : {A : Type 0} {P : List Token → A → Type 0} {s : Symbol} {more : List Terminal} {ts : List Token} {x : A} {rest : List Token} {l : Limits} (r : Read s (after more) P ts no_limits x rest l) → length r.used + length rest ≡ length ts
used_len {rest = rest} r = let a = ap length r.split in let b = length-append r.used rest in omega arith

pub part_read : {A : Type 0} {P : List Token → A → Type 0} (p : Part) (more : List Terminal) (ts : List Token) (x : A) (rest : List Token) (l : Limits) (tree : PartTree) (start next : ℕ) → Read (start_of p) (after more) P ts no_limits x rest l → ((xs : List Token) → P xs x → IsPart p xs tree) → next ≡ start + (length ts - length rest) → IsPartRead p ts start tree next
part_read p more ts x rest l tree start next r f e =
    let n = used_len r in
    record {
      len = length r.used;
      within = omega arith;
      next_is = omega arith;
      sentence = subst (λ xs. IsPart p xs tree) (sym (used_is r)) (f r.used r.sentence);
      longest = no_longer (start_of p) more ts x rest l r;
      limits = within_read (start_of p) more ts x rest l r;
    }

pub expr_read : (more : List Terminal) (ts : List Token) (x : ExprTree) (rest : List Token) (l : Limits) (len : ℕ) → Read (rule expr) (after more) IsExpr ts no_limits x rest l → len ≡ length ts - length rest → IsLongestExpr ts x len
expr_read more ts x rest l len r e =
    let n = used_len r in
    let same : length r.used ≡ len = omega arith in
    record {
      within = omega arith;
      sentence = subst (λ k. IsExpr (take k ts) x) same (subst (λ xs. IsExpr xs x) (sym (used_is r)) r.sentence);
      longest = λ m h d. subst (λ k. m ≤ k) same (no_longer (rule expr) more ts x rest l r m h d);
      limits = within_read (rule expr) more ts x rest l r;
    }

-- an expression that is shorter than the tokens is not all of them
pub not_whole : (ts : List Token) (x : ExprTree) (len : ℕ) → IsLongestExpr ts x len → len ≢ length ts → Derives Whole (rule expr ∷ []) ts → ⊥
not_whole ts x len r n d =
    let m = r.longest (length ts) (omega arith) (subst (Derives Whole (rule expr ∷ [])) (sym (take-length ts)) d) in
    let w = r.within in
    n (omega arith)

pub whole_is : (ts : List Token) (x : ExprTree) (len : ℕ) → IsLongestExpr ts x len → len ≡ length ts → IsExpr ts x
whole_is ts x len r e = subst (λ xs. IsExpr xs x) (ap (λ k. take k ts) e ∙ take-length ts) r.sentence

-- where the parser stops, the tokens are no sentence
pub no_sentence_there : (s : Symbol) (ts : List Token) (left : ℕ) → IsFaultAlone s ts (fault.Expected left) → Derives Whole (s ∷ []) ts → ⊥
no_sentence_there s ts left (syntax.expected front stop k l r h) d = blocked_whole (s ∷ []) front stop r.blocked (subst (Derives Whole (s ∷ [])) k d)

-- tokens within the limits are not too deep
pub not_too_deep : (s : Symbol) (ts : List Token) (left : ℕ) → Fits no_limits ts → IsFaultAlone s ts (fault.TooDeep left) → ⊥
not_too_deep s ts left f (syntax.too_deep front rest at k l b h x) = false≢true (sym (fits_at no_limits front at rest (subst (Fits no_limits) k f)) ∙ x)

-- from the tokens before the stop to all of them
module _ (ts : List Token) (left : ℕ) where
  abbrev before : List Token
  before = take (length ts - left) ts

  record Stopped : Type 0 where
    front : List Token
    stop : List Token
    split : ts ≡ front ++ stop
    is : before ≡ front
    fits : Fits no_limits front
    most : (m : ℕ) → m ≤ length ts → Derives Whole (rule expr ∷ []) (take m ts) → m ≤ length front

  stopped_of : IsFaultAlone (rule expr) ts (fault.Expected left) → Stopped
  stopped_of (syntax.expected front stop k l r h) = record {
    front = front;
    stop = stop;
    split = k;
    is = front_is ts front stop left k l;
    fits = h;
    most = λ m e d. not_past (rule expr) front stop r.blocked m (subst (λ n. m ≤ n) (ap length k) e) (subst (λ xs. Begins (rule expr ∷ []) (take m xs)) k (begins_whole (rule expr) (take m ts) d));
  }

  pub before_fits : IsFaultAlone (rule expr) ts (fault.Expected left) → Fits no_limits before
  before_fits f = let s = stopped_of f in subst (Fits no_limits) (sym s.is) s.fits

  same_take : (s : Stopped) (m : ℕ) → m ≤ length s.front → take m before ≡ take m ts
  same_take s m h = ap (take m) s.is ∙ sym (take-append-le m s.front s.stop h) ∙ ap (take m) (sym s.split)

  pub longest_before : IsFaultAlone (rule expr) ts (fault.Expected left) → (x : ExprTree) (len : ℕ) → IsLongestExpr before x len → IsLongestExpr ts x len
  longest_before f x len r =
      let s = stopped_of f in
      let n : len ≤ length s.front = subst (λ xs. len ≤ length xs) s.is r.within in
      let a = ap length s.split in
      let b = length-append s.front s.stop in
      record {
        within = omega arith;
        sentence = subst (λ xs. IsExpr xs x) (same_take s len n) r.sentence;
        longest = λ m h d. let k = s.most m h d in r.longest m (subst (λ xs. m ≤ length xs) (sym s.is) k) (subst (Derives Whole (rule expr ∷ [])) (sym (same_take s m k)) d);
        limits = within_stop (rule expr) ts left f;
      }

  pub none_before : IsFaultAlone (rule expr) ts (fault.Expected left) → NoFront (rule expr) before → NoFront (rule expr) ts
  none_before f r m h d =
      let s = stopped_of f in
      let k = s.most m h d in
      r m (subst (λ xs. m ≤ length xs) (sym s.is) k) (subst (Derives Whole (rule expr ∷ [])) (sym (same_take s m k)) d)

pub stop_found : (ts : List Token) (left : ℕ) → IsFaultAlone (rule expr) ts (fault.Expected left) → NoFront (rule expr) ts → IsPartStop (rule expr) ts (fault.Expected left)
stop_found ts left f n = record { alone = f; none = λ l e. n }

pub stop_deep : (s : Symbol) (ts : List Token) (left : ℕ) → IsFaultAlone s ts (fault.TooDeep left) → IsPartStop s ts (fault.TooDeep left)
stop_deep s ts left f = record { alone = f; none = λ l e. absurd cc }

pub stop_memory : (s : Symbol) (ts : List Token) → IsPartStop s ts fault.NoMemory
stop_memory s ts = record { alone = syntax.no_memory; none = λ l e. absurd cc }

-- no expression is empty
pub no_empty : (ts : List Token) (len : ℕ) → len ≡ 0 → ((m : ℕ) → len < m → m ≤ length ts → Derives Whole (rule expr ∷ []) (take m ts) → ⊥) → NoFront (rule expr) ts
no_empty ts len z n zero h d = dead_end (rule expr) [] refl d
no_empty ts len z n (suc m) h d = n (suc m) (omega arith) h d

-- one length less
pub none_less : (ts : List Token) (len : ℕ) → (Derives Whole (rule expr ∷ []) (take len ts) → ⊥) → ((m : ℕ) → len < m → m ≤ length ts → Derives Whole (rule expr ∷ []) (take m ts) → ⊥) → (m : ℕ) → len - 1 < m → m ≤ length ts → Derives Whole (rule expr ∷ []) (take m ts) → ⊥
none_less ts len here n m g h d = by_order (cases_lt len m)
  where
    by_order : (len < m) ⊎ (m ≤ len) → ⊥
    by_order (inl e) = n m e h d
    by_order (inr e) = let same : m ≡ len = omega arith in here (subst (λ k. Derives Whole (rule expr ∷ []) (take k ts)) same d)

pub found_longest : (ts front : List Token) (x : ExprTree) (len : ℕ) → Fits no_limits ts → len ≤ length ts → front ≡ take len ts → IsExpr front x → ((m : ℕ) → len < m → m ≤ length ts → Derives Whole (rule expr ∷ []) (take m ts) → ⊥) → IsLongestExpr ts x len
found_longest ts front x len f w e h n = record {
  within = w;
  sentence = subst (λ xs. IsExpr xs x) e h;
  longest = λ m k d. by_order m k d (cases_lt len m);
  limits = λ e a. fits_not_deep (rule expr) ts e a f;
}
  where
    by_order : (m : ℕ) → m ≤ length ts → Derives Whole (rule expr ∷ []) (take m ts) → (len < m) ⊎ (m ≤ len) → m ≤ len
    by_order m k d (inl g) = absurd (n m g k d)
    by_order m k d (inr g) = g

pub expression_read : (ts : List Token) (x : ExprTree) (len start next : ℕ) → IsLongestExpr ts x len → next ≡ start + len → IsPartRead part.Expression ts start (tree.Expression x) next
expression_read ts x len start next r e = record { len = len; within = r.within; next_is = e; sentence = parts.is_expression r.sentence; longest = r.longest; limits = r.limits }

told_twice : (p : Place) (plain : Bool) (front stop : List Token) (last : Place) (e : SyntaxFault) → IsToldAt plain front stop last e → e ≡ told.TooDeep p → ⊥
told_twice p plain front stop last _ (syntax.expected n) b = cc
told_twice p plain front stop last _ (syntax.not_supported n) b = cc

pub part_fault_told : (s : Symbol) (ts : List Token) (last : Place) (f : Fault) (e : SyntaxFault) → IsPartStop s ts f → IsToldFault false ts last f e → (e ≡ told.NoMemory) ⊎ IsPartFault s ts last e
part_fault_told s ts last (fault.Expected left) e r t = by_told (fault_told s false ts last (fault.Expected left) e r.alone t)
  where
    by_told : (e ≡ told.NoMemory) ⊎ IsSyntaxFault s false ts last e → (e ≡ told.NoMemory) ⊎ IsPartFault s ts last e
    by_told (inl m) = inl m
    by_told (inr (syntax.too_deep x)) = inr (parts.too_deep x)
    by_told (inr (syntax.stopped x)) = inr (parts.stopped x (r.none left refl))
part_fault_told s ts last (fault.TooDeep left) e r t = by_told (fault_told s false ts last (fault.TooDeep left) e r.alone t) r.alone t
  where
    by_told : (e ≡ told.NoMemory) ⊎ IsSyntaxFault s false ts last e → IsFaultAlone s ts (fault.TooDeep left) → IsToldFault false ts last (fault.TooDeep left) e → (e ≡ told.NoMemory) ⊎ IsPartFault s ts last e
    by_told (inl m) a b = inl m
    by_told (inr (syntax.too_deep x)) a b = inr (parts.too_deep x)
    by_told (inr (syntax.stopped x)) a b = absurd (told_twice _ _ _ _ _ _ x.told b)
part_fault_told s ts last fault.NoMemory e r t = inl t
