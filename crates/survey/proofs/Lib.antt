pub mod SurveyLaws
