-- The lines of every text, and every text as a form: surveys and levels, contours, reports; the place in a survey's text.
pub mod Lines
pub mod Surveys
pub mod Contours
pub mod Reports
pub mod Place
