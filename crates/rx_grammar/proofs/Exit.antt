-- The exit of a `?`.
use Rattle.std.proofs.Common.{◌≡◌, List, sym, subst, Result, Ok, Err}
use Rattle.std.specs.Result.{IsErrAnd}
use Rattle.rx_syntax.specs.declared.token.Token.{Token}
use Rattle.rx_grammar.specs.First.{Behind}
use Rattle.rx_grammar.specs.declared.fault.Fault.{Fault}
use Rattle.rx_grammar.specs.declared.fault.Fault.TheVariants.{NoMemory}
use Rattle.rx_grammar.specs.declared.cursor.Cursor.{Cursor}
use Rattle.rx_grammar.specs.Grammar.{Symbol}
use Rattle.rx_grammar.specs.Reads.{Reads, IsFault, no_memory}

pub exit : {B : Type 0} (Q : List Token → B → Type 0) (symbol : Symbol) (more : Behind) (c : Cursor) (r : Result (B × Cursor) Fault) (e : Fault) → IsErrAnd r (λ y. y ≡ e) → IsFault symbol more c.rest.now c.limits e → Reads symbol more Q c r
exit Q symbol more c (Ok x) e h f = absurd h
exit Q symbol more c (Err y) e h f = subst (λ y'. IsFault symbol more c.rest.now c.limits y') (sym h) f

-- the exit of a `?` where memory ran out
pub out_of_memory : {B : Type 0} (Q : List Token → B → Type 0) (symbol : Symbol) (more : Behind) (c : Cursor) (r : Result (B × Cursor) Fault) (e : Fault) → IsErrAnd r (λ y. y ≡ e) → e ≡ NoMemory → Reads symbol more Q c r
out_of_memory Q symbol more c r e h f = exit Q symbol more c r e h (subst (λ y. IsFault symbol more c.rest.now c.limits y) (sym f) no_memory)
