pub mod RisingLemmas
mod PageLemmas
mod PagesLemmas
mod PickLemmas
pub mod StoredLemmas
pub mod CallLemmas
pub mod TellingLemmas
pub mod Results
