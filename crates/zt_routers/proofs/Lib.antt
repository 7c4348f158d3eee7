mod Branches
mod Greetings
mod InOrder
mod Loops
mod Noted
mod Only
mod Origins
mod Passed
