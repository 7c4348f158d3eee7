pub mod Counted
pub mod Meant
pub mod Ordered
pub mod RoutedOrder
pub mod Routing
