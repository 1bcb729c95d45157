pub mod RowLaws
pub mod CountLaws
pub mod PourLaws
pub mod PlanLaws
pub mod AnswerLaws
pub mod FileLaws
