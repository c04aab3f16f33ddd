mod OwnUriLaws
mod ReadingLaws
