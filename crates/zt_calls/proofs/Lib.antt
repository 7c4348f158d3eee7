mod Doing
mod Expiry
mod OwnRowsGo
mod PartsOf
