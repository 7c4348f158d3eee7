use Rattle.zt_check_fabric.proofs.Shown.{shown_placed, with_line_placed}
use Rattle.zt_check_fabric.proofs.laws.faces_have_places.Goals as goal

pub returns-clause-changed : goal.returns-clause-changed
returns-clause-changed g c = λ line sents s placed. with_line_placed g.K.Ord.cmp g.K.Key.matching line sents s placed

pub returns-clause-shown : goal.returns-clause-shown
returns-clause-shown g c = λ line entry s placed. shown_placed g.K.Ord.cmp g.K.Key.matching line entry s placed
