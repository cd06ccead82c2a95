pub mod PassedOver
pub mod Standing
