-- Pieces of the rules between two readers of the cycle.
pub mod Token
