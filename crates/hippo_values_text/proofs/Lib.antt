mod ClockTextLemmas
pub mod DateTextLemmas
pub mod DatesLemmas
pub mod MomentTextLemmas
mod OptionLemmas
pub mod PrintingLemmas
pub mod WrittenLemmas
