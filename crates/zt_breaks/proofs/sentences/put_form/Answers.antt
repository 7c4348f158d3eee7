use Rattle.zt_breaks.proofs.sentences.put_form.Goals as goal

pub returns-in-Head : goal.returns-in-Head
returns-in-Head c = rw c.in-Head.is c.put_headed.ensures

pub returns-in-Message : goal.returns-in-Message
returns-in-Message c = rw c.in-Message.is c.put.ensures

pub returns-in-Order : goal.returns-in-Order
returns-in-Order c = rw c.in-Order.is (rw c.from.ensures at c.put_numbered.ensures)

pub returns-in-NoMessage : goal.returns-in-NoMessage
returns-in-NoMessage c = rw c.in-NoMessage.is c.put-in-NoMessage.ensures

pub returns-in-Totals : goal.returns-in-Totals
returns-in-Totals c = rw c.in-Totals.is c.put_totalled.ensures
