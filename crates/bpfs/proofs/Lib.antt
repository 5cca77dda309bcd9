pub mod HelpLaws
pub mod TextLaws
