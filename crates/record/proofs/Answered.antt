-- Each of the calls is answered by its first fault: the list is one statement, which the checker computes.
use Rattle.record.specs.Order.{all_answered, order, InOrder}

in_order : InOrder
unfolding all_answered order
in_order = tt
