-- Lists that items mean, one after the other.
use Rattle.std.proofs.Common.{◌≡◌, ◌∙◌, ap, sym, refl, ℕ, ◌+◌, ◌<◌, ◌≤◌, List, ◌++◌, length, get_or, drop, append_assoc, append-nil, Result, Ok, Err}
use Rattle.std.proofs.lemmas.List.{at_drop_more, at_drop_all}
use Rattle.rx_judge.specs.Meaning.{Meaning, ◌>>=◌, Tells}
use Rattle.rx_judge.specs.declared.fault.Fault.{Fault}
use Rattle.rx_judge.specs.declared.fault.Fault.TheVariants.{Refused, NoMemory}
use Rattle.rx_links.specs.Links.{gathered_from}

-- these, and then those of the meaning
abbrev pub behind : {B R : Type 0} → List B → Result (List B) R → Result (List B) R
behind ys m = m >>= (λ zs. Ok (ys ++ zs))

-- the whole is what the items from i on mean behind ys
pub record Gathering {A B R : Type 0} (whole : Result (List B) R) (f : ℕ → A → Result (List B) R) (xs : List A) (i : ℕ) (ys : List B) : Type 0 where
  pub rest : whole ≡ behind ys (gathered_from f i (drop i xs))

pub gathering_starts : {A B R : Type 0} (m : Result (List B) R) (f : ℕ → A → Result (List B) R) (xs : List A) (ys : List B) → m ≡ Ok ys → Gathering (m >>= (λ ws. gathered_from f 0 xs >>= (λ vs. Ok (ws ++ vs)))) f xs 0 ys
gathering_starts m f xs ys h = record { rest = rw h refl }

regrouped : {B R : Type 0} (ys a : List B) (m : Result (List B) R) → behind ys (m >>= (λ zs. Ok (a ++ zs))) ≡ behind (ys ++ a) m
regrouped ys a (Ok zs) = ap (λ w. Ok w) (sym (append_assoc ys a zs))
regrouped ys a (Err r) = refl

pub gathers_more : {A B R : Type 0} {whole : Result (List B) R} {f : ℕ → A → Result (List B) R} {xs : List A} {i : ℕ} {ys : List B} (x : A) (a new : List B) → Gathering whole f xs i ys → i < length xs → x ≡ get_or xs i x → f i x ≡ Ok a → new ≡ ys ++ a → Gathering whole f xs (i + 1) new
gathers_more {f = f} {xs = xs} {i = i} {ys = ys} x a new g h e k n =
    let p = at_drop_more (λ zs. behind ys (gathered_from f i zs)) xs i x h in
    record { rest = g.rest ∙ p ∙ rw (← e, k, n) (regrouped ys a (gathered_from f (i + 1) (drop (i + 1) xs))) }

pub gathering_refuses : {A B : Type 0} {whole : Meaning (List B)} {f : ℕ → A → Meaning (List B)} {xs : List A} {i : ℕ} {ys : List B} (x : A) (e : Fault) → Gathering whole f xs i ys → i < length xs → x ≡ get_or xs i x → Tells e (f i x) → Tells e whole
gathering_refuses {f = f} {xs = xs} {i = i} {ys = ys} x (Refused r) g h e k =
    let p = at_drop_more (λ zs. behind ys (gathered_from f i zs)) xs i x h in
    g.rest ∙ p ∙ rw (← e, k) refl
gathering_refuses x NoMemory g h e k = tt

pub gathering_ends : {A B R : Type 0} {whole : Result (List B) R} {f : ℕ → A → Result (List B) R} {xs : List A} {i : ℕ} {ys : List B} → Gathering whole f xs i ys → length xs ≤ i → whole ≡ Ok ys
gathering_ends {f = f} {xs = xs} {i = i} {ys = ys} g h = g.rest ∙ at_drop_all (λ zs. behind ys (gathered_from f i zs)) xs i h ∙ ap (λ w. Ok w) (append-nil ys)
