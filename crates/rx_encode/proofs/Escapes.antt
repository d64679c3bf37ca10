-- What stands for a byte in a JSON text.
use Rattle.std.proofs.Common.{◌≡◌, ℕ, ◌/◌, ◌%◌, ◌<◌, ◌≤◌, true, false, cond, [], ◌∷◌, sym, ap, ◌∙◌, arith}
use Rattle.std.specs.Prelude.{nat_lt}
use Rattle.std.specs.Char.{digit_char}
use Rattle.std.proofs.lemmas.Bool.Decides.{Decides-ltb, nat_tests}
use Rattle.json.specs.Print.{escape_byte, escape_letter}

not_below : (a b : ℕ) → b ≤ a → nat_lt a b ≡ false
not_below a b h = grind (arith, nat_tests)

-- a byte with a letter
pub with_letter : (x letter : ℕ) → letter ≡ escape_letter x → 0 < letter → escape_byte x ≡ 92 ∷ letter ∷ []
unfolding escape_byte
with_letter x letter e h =
    let some : nat_lt 0 (escape_letter x) ≡ true = ap (nat_lt 0) (sym e) ∙ (Decides-ltb 0 letter).1 h in
    ap (λ b. cond b (92 ∷ escape_letter x ∷ []) (cond (nat_lt x 32) (92 ∷ 117 ∷ 48 ∷ 48 ∷ digit_char (x / 16) ∷ digit_char (x % 16) ∷ []) (x ∷ []))) some ∙ ap (λ l. 92 ∷ l ∷ []) (sym e)

-- any other below 32
pub with_digits : (x letter : ℕ) → letter ≡ escape_letter x → letter ≤ 0 → x < 32 → escape_byte x ≡ 92 ∷ 117 ∷ 48 ∷ 48 ∷ digit_char (x / 16) ∷ digit_char (x % 16) ∷ []
unfolding escape_byte
with_digits x letter e h lt =
    let none : nat_lt 0 (escape_letter x) ≡ false = ap (nat_lt 0) (sym e) ∙ not_below 0 letter h in
    ap (λ b. cond b (92 ∷ escape_letter x ∷ []) (cond (nat_lt x 32) (92 ∷ 117 ∷ 48 ∷ 48 ∷ digit_char (x / 16) ∷ digit_char (x % 16) ∷ []) (x ∷ []))) none
    ∙ ap (λ b. cond b (92 ∷ 117 ∷ 48 ∷ 48 ∷ digit_char (x / 16) ∷ digit_char (x % 16) ∷ []) (x ∷ [])) ((Decides-ltb x 32).1 lt)

-- and any other stands for itself
pub as_it_is : (x letter : ℕ) → letter ≡ escape_letter x → letter ≤ 0 → 32 ≤ x → escape_byte x ≡ x ∷ []
unfolding escape_byte
as_it_is x letter e h le =
    let none : nat_lt 0 (escape_letter x) ≡ false = ap (nat_lt 0) (sym e) ∙ not_below 0 letter h in
    ap (λ b. cond b (92 ∷ escape_letter x ∷ []) (cond (nat_lt x 32) (92 ∷ 117 ∷ 48 ∷ 48 ∷ digit_char (x / 16) ∷ digit_char (x % 16) ∷ []) (x ∷ []))) none
    ∙ ap (λ b. cond b (92 ∷ 117 ∷ 48 ∷ 48 ∷ digit_char (x / 16) ∷ digit_char (x % 16) ∷ []) (x ∷ [])) (not_below x 32 le)
