-- Laws of sums and products of whole numbers that std lacks.
use Rattle.std.proofs.Common.{◌≡◌, sym, ap, ◌∙◌, ℕ, suc, zero, arith, ℤ, pos, negsuc, ◌+ℤ◌, ◌*ℤ◌, ◌≤ℤ◌, ◌<ℤ◌, ◌<◌, neg_ℤ}
use Rattle.std.proofs.lemmas.Int.{ints, by_lt_z}
use Rattle.std.specs.Int.{int_div_euclid}
use Rattle.std.proofs.Math.IntN.{suc_ℤ-*ℤ, pred_ℤ-*ℤ, *ℤ_comm, zero-*ℤ, ℤ_ind, +ℤ_one, -ℤ_one, +ℤ_idl}

-- one more and one less, as `omega` reads them
more_times : (m k : ℤ) → (m +ℤ pos 1) *ℤ k ≡ m *ℤ k +ℤ k
more_times m k = ap (λ (z : ℤ). z *ℤ k) (+ℤ_one m) ∙ suc_ℤ-*ℤ m k

less_times : (m k : ℤ) → (m +ℤ neg_ℤ (pos 1)) *ℤ k ≡ m *ℤ k +ℤ neg_ℤ k
less_times m k = ap (λ (z : ℤ). z *ℤ k) (-ℤ_one m) ∙ pred_ℤ-*ℤ m k

pub add_times : (m n k : ℤ) → (m +ℤ n) *ℤ k ≡ m *ℤ k +ℤ n *ℤ k
add_times m n k =
    ℤ_ind (λ z. (z +ℤ n) *ℤ k ≡ z *ℤ k +ℤ n *ℤ k)
    (ap (λ (z : ℤ). z *ℤ k) (+ℤ_idl n) ∙ sym (ap (λ (z : ℤ). z +ℤ n *ℤ k) (zero-*ℤ k) ∙ +ℤ_idl (n *ℤ k)))
    (λ j h. up_one (pos j) h)
    (λ j h. down_one (neg_ℤ (pos j)) h)
    m
  where
    up_one : (z : ℤ) → (z +ℤ n) *ℤ k ≡ z *ℤ k +ℤ n *ℤ k → (z +ℤ pos 1 +ℤ n) *ℤ k ≡ (z +ℤ pos 1) *ℤ k +ℤ n *ℤ k
    up_one z h =
        let swap : z +ℤ pos 1 +ℤ n ≡ z +ℤ n +ℤ pos 1 = omega (arith, ints) in
        ap (λ (y : ℤ). y *ℤ k) swap ∙ more_times (z +ℤ n) k ∙ ap (λ (y : ℤ). y +ℤ k) h ∙ (let e = more_times z k in omega (arith, ints))

    down_one : (z : ℤ) → (z +ℤ n) *ℤ k ≡ z *ℤ k +ℤ n *ℤ k → (z +ℤ neg_ℤ (pos 1) +ℤ n) *ℤ k ≡ (z +ℤ neg_ℤ (pos 1)) *ℤ k +ℤ n *ℤ k
    down_one z h =
        let swap : z +ℤ neg_ℤ (pos 1) +ℤ n ≡ z +ℤ n +ℤ neg_ℤ (pos 1) = omega (arith, ints) in
        ap (λ (y : ℤ). y *ℤ k) swap ∙ less_times (z +ℤ n) k ∙ ap (λ (y : ℤ). y +ℤ neg_ℤ k) h ∙ (let e = less_times z k in omega (arith, ints))

pub times_add : (k m n : ℤ) → k *ℤ (m +ℤ n) ≡ k *ℤ m +ℤ k *ℤ n
times_add k m n =
    *ℤ_comm k (m +ℤ n) ∙ add_times m n k ∙ ap (λ (z : ℤ). z +ℤ n *ℤ k) (*ℤ_comm m k) ∙ ap (λ (z : ℤ). k *ℤ m +ℤ z) (*ℤ_comm n k)

pub times_assoc : (a b c : ℤ) → (a *ℤ b) *ℤ c ≡ a *ℤ (b *ℤ c)
times_assoc a b c =
    ℤ_ind (λ z. (z *ℤ b) *ℤ c ≡ z *ℤ (b *ℤ c))
    (ap (λ (z : ℤ). z *ℤ c) (zero-*ℤ b) ∙ zero-*ℤ c ∙ sym (zero-*ℤ (b *ℤ c)))
    (λ j h. ap (λ (z : ℤ). z *ℤ c) (more_times (pos j) b) ∙ add_times (pos j *ℤ b) b c ∙ ap (λ (z : ℤ). z +ℤ b *ℤ c) h ∙ sym (more_times (pos j) (b *ℤ c)))
    (λ j h. ap (λ (z : ℤ). z *ℤ c) (less_times (neg_ℤ (pos j)) b) ∙ add_times (neg_ℤ (pos j) *ℤ b) (neg_ℤ b) c ∙ ap (λ (z : ℤ). z +ℤ neg_ℤ b *ℤ c) h ∙ ap (λ (z : ℤ). neg_ℤ (pos j) *ℤ (b *ℤ c) +ℤ z) (neg_times b c) ∙ sym (less_times (neg_ℤ (pos j)) (b *ℤ c)))
    a
  where
    neg_times : (m k : ℤ) → neg_ℤ m *ℤ k ≡ neg_ℤ (m *ℤ k)
    neg_times m k =
        let cancel : neg_ℤ m +ℤ m ≡ pos 0 = omega (arith, ints) in
        let e : (neg_ℤ m +ℤ m) *ℤ k ≡ pos 0 = ap (λ (z : ℤ). z *ℤ k) cancel ∙ zero-*ℤ k in
        let d = add_times (neg_ℤ m) m k in
        omega (arith, ints)

-- a multiplier that is not negative keeps the order
pub times_le : (k a b : ℤ) → pos 0 ≤ℤ k → a ≤ℤ b → (k *ℤ a) ≤ℤ (k *ℤ b)
times_le (pos zero) a b n h = omega (arith, ints, zero-*ℤ a, zero-*ℤ b)
times_le (pos (suc j)) a b n h =
    let below : (pos j *ℤ a) ≤ℤ (pos j *ℤ b) = times_le (pos j) a b (omega (arith, ints)) h in
    let ea : pos (suc j) *ℤ a ≡ pos j *ℤ a +ℤ a = suc_ℤ-*ℤ (pos j) a in
    let eb : pos (suc j) *ℤ b ≡ pos j *ℤ b +ℤ b = suc_ℤ-*ℤ (pos j) b in
    omega (arith, ints)
times_le (negsuc j) a b n h = absurd (omega (arith, ints))

-- and what it keeps apart was apart
pub times_lt_back : (k a b : ℤ) → pos 0 ≤ℤ k → (k *ℤ a) <ℤ (k *ℤ b) → a <ℤ b
times_lt_back k a b n h =
    by_lt_z a b (λ l. l) (λ g. let back = times_le k b a n g in absurd (omega (arith, ints)))

-- division by a natural: between the product and one divisor more
pub div_bounds : (y : ℤ) (d : ℕ) → 0 < d → ((pos d *ℤ int_div_euclid y (pos d)) ≤ℤ y) × (y <ℤ (pos d *ℤ int_div_euclid y (pos d) +ℤ pos d))
div_bounds (pos a) d h = (omega (arith, ints), omega (arith, ints))
div_bounds (negsuc a) d h = (omega (arith, ints), omega (arith, ints))

pub neg_times_is : (m k : ℤ) → neg_ℤ m *ℤ k ≡ neg_ℤ (m *ℤ k)
neg_times_is m k =
    let cancel : neg_ℤ m +ℤ m ≡ pos 0 = omega (arith, ints) in
    let e : (neg_ℤ m +ℤ m) *ℤ k ≡ pos 0 = ap (λ (z : ℤ). z *ℤ k) cancel ∙ zero-*ℤ k in
    let d = add_times (neg_ℤ m) m k in
    omega (arith, ints)

pub times_neg_is : (k m : ℤ) → k *ℤ neg_ℤ m ≡ neg_ℤ (k *ℤ m)
times_neg_is k m = *ℤ_comm k (neg_ℤ m) ∙ neg_times_is m k ∙ ap neg_ℤ (*ℤ_comm m k)
