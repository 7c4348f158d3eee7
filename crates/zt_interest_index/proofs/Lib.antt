mod Alike
mod Changed
mod Found
mod InBucket
mod InOrder
mod Kept
mod Rising
