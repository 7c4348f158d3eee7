mod Expiring
mod Gaps
mod Highest
mod Known
pub mod Rising
mod Routers
pub mod Said
mod Standings
mod Times
