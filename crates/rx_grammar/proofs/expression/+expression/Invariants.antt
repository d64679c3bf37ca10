use Rattle.std.proofs.Common.{ℕ, ◌+◌, ◌*◌, length}
use Rattle.rx_syntax.specs.declared.mark.Mark.TheVariants as sign
use Rattle.rx_grammar.specs.declared.terminal.Keyword.TheVariants as word
use Rattle.rx_grammar.specs.declared.terminal.Choice.TheVariants as choice
use Rattle.rx_grammar.specs.Grammar.{rule, key, choice_of, many, ◌▸◌, expr, conj, rel, sum, product, power, expr_more, conj_more, sum_more, product_more}
use Rattle.rx_grammar.specs.First.{after}
use Rattle.rx_grammar.specs.Sentence.{IsExpr, IsConj, IsSum, IsProduct}
use Rattle.rx_grammar.proofs.Chain.{Chain}
use Rattle.rx_grammar.proofs.expression.+expression.Given as goal

abbrev pub decreases-expr : goal.decreases-expr
decreases-expr l = 16 * length l.start.rest.now + 14

abbrev pub decreases-conj : goal.decreases-conj
decreases-conj l = 16 * length l.start.rest.now + 12

abbrev pub decreases-rel : goal.decreases-rel
decreases-rel l = 16 * length l.cursor.rest.now + 10

abbrev pub decreases-sum : goal.decreases-sum
decreases-sum l = 16 * length l.start.rest.now + 8

abbrev pub decreases-signed : goal.decreases-signed
decreases-signed l = 16 * length l.cursor.rest.now + 7

abbrev pub decreases-product : goal.decreases-product
decreases-product l = 16 * length l.start.rest.now + 5

abbrev pub decreases-power : goal.decreases-power
decreases-power l = 16 * length l.cursor.rest.now + 3

abbrev pub decreases-factor : goal.decreases-factor
decreases-factor l = 16 * length l.cursor.rest.now + 1

abbrev pub invariant-expr-operators : goal.invariant-expr-operators
invariant-expr-operators l = Chain (rule expr) (after expr_more) IsExpr (many (key word.Or ▸ rule conj)) l.fn.start.rest.now l.fn.start.limits l.tree l.cursor.rest.now l.cursor.limits

abbrev pub decreases-expr-operators : goal.decreases-expr-operators
decreases-expr-operators l = length l.cursor.rest.now

abbrev pub invariant-conj-operators : goal.invariant-conj-operators
invariant-conj-operators l = Chain (rule conj) (after conj_more) IsConj (many (key word.And ▸ rule rel)) l.fn.start.rest.now l.fn.start.limits l.tree l.cursor.rest.now l.cursor.limits

abbrev pub decreases-conj-operators : goal.decreases-conj-operators
decreases-conj-operators l = length l.cursor.rest.now

abbrev pub invariant-sum-operators : goal.invariant-sum-operators
invariant-sum-operators l = Chain (rule sum) (after sum_more) IsSum (many (choice_of choice.Sign ▸ rule product)) l.fn.start.rest.now l.fn.start.limits l.tree l.cursor.rest.now l.cursor.limits

abbrev pub decreases-sum-operators : goal.decreases-sum-operators
decreases-sum-operators l = length l.cursor.rest.now

abbrev pub invariant-product-operators : goal.invariant-product-operators
invariant-product-operators l = Chain (rule product) (after product_more) IsProduct (many (choice_of choice.Multiplying ▸ rule power)) l.fn.start.rest.now l.fn.start.limits l.tree l.cursor.rest.now l.cursor.limits

abbrev pub decreases-product-operators : goal.decreases-product-operators
decreases-product-operators l = length l.cursor.rest.now
