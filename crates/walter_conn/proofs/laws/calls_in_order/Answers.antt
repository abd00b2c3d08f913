use Rattle.walter_conn.proofs.Orders.{one_order, one_list, front_of_all}
use Rattle.walter_conn.proofs.laws.calls_in_order.Goals as goal

pub returns-clause-one : goal.returns-clause-one
returns-clause-one c = one_order

pub returns-clause-all : goal.returns-clause-all
returns-clause-all c = one_list

pub returns-clause-front : goal.returns-clause-front
returns-clause-front c = front_of_all
