use Rattle.std.proofs.Common.{◌≡◌, ◌++◌, ◌∷◌, drop}
use Rattle.json.specs.Print.{escape}
use Rattle.rx_encode.proofs.keys.escaped.Given as goal

-- the text so far, with what stands for the bytes that are left, is the text of all
abbrev pub invariant-loop-byte : goal.invariant-loop-byte
invariant-loop-byte l = l.text.items ++ escape (drop l.byte-index l.key) ≡ 34 ∷ escape l.key
