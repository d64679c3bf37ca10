use Rattle.std.proofs.Common.{◌<◌, ◌≤◌, ◌/◌, [], ◌∷◌, ◌++◌, sym, ap, ◌∙◌, arith}
use Rattle.std.specs.Char.{digit_char}
use Rattle.rx_encode.proofs.Escapes.{with_letter, with_digits, as_it_is}
use Rattle.rx_encode.proofs.keys.put_byte.Goals as goal

pub returns-then-letter-gt0 : goal.returns-then-letter-gt0
returns-then-letter-gt0 c =
    let letter = c.escape_letter-letter.result in
    let some : 0 < letter = omega (arith, c.if-letter-gt0.true) in
    c.in_ok-extend_from_slice.ensures.items ∙ ap (λ l. c.args.text.now.items ++ l) (sym (with_letter c.args.byte letter c.escape_letter-letter.ensures some))

pub returns-then-byte-lt32 : goal.returns-then-byte-lt32
returns-then-byte-lt32 c =
    let letter = c.escape_letter-letter.result in
    let none : letter ≤ 0 = omega (arith, c.if-letter-gt0.false) in
    let below : c.args.byte < 32 = omega (arith, c.if-byte-lt32.true) in
    let text = c.args.text.now.items in
    c.in_ok-extend_from_slice-2.ensures.items ∙ ap (λ d. text ++ (92 ∷ 117 ∷ 48 ∷ 48 ∷ d ∷ c.digit-then-byte-lt32.result ∷ [])) c.digit.ensures
    ∙ ap (λ d. text ++ (92 ∷ 117 ∷ 48 ∷ 48 ∷ digit_char (c.args.byte / 16) ∷ d ∷ [])) c.digit-then-byte-lt32.ensures ∙ ap (λ l. text ++ l) (sym (with_digits c.args.byte letter c.escape_letter-letter.ensures none below))

pub returns : goal.returns
returns c =
    let letter = c.escape_letter-letter.result in
    let none : letter ≤ 0 = omega (arith, c.if-letter-gt0.false) in
    let above : 32 ≤ c.args.byte = omega (arith, c.if-byte-lt32.false) in
    c.in_ok-push.ensures.items ∙ ap (λ l. c.args.text.now.items ++ l) (sym (as_it_is c.args.byte letter c.escape_letter-letter.ensures none above))
