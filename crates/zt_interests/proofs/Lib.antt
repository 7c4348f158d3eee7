mod ChosenRows
mod Finals
mod Gone
mod HeldSouth
mod Numbered
mod North
mod Asked
mod Ordered
