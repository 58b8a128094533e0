pub mod DoneLists
