mod TapeLaws
