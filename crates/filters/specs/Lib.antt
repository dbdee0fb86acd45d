-- What each filter is defined to make of its samples, in reading order: tables, lists, sections, readers, and then each stage
-- of them.
pub mod Rom
pub mod Lists
pub mod Run
pub mod Section
pub mod Reader
pub mod Stage
