pub mod GlobalParts
