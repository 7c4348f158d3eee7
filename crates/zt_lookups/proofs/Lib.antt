mod Listed
mod Numbers
mod Pairs
mod RegionOrder
mod Searched
