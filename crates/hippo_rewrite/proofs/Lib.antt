pub mod Products
pub mod MaskedCells
pub mod MaskedAnswers
pub mod FittingRows
pub mod RulesInForce
